-- Point 3, the law of products (S61), as one claim about seven answers modulo one n: the product of f and g, then the resultant and the
-- reduced resultant of that product, of f and of g, each as first polynomial with h as second. It is about any seven answers that are what
-- the definitions say, so about whatever functions give them.
--
--   SevenAnswers     what the product, the resultant and the reduced resultant promise of the seven answers
--   LawOfProducts    what then holds between them
--   point_three      the theorem
--
-- Letters: p is the product; r, rf, rg are the resultants of p, f, g with h; D, Df, Dg their reduced resultants.
use Rattle.std.specs.Prelude.{◌≡◌, List, ℕ, ◌≤◌, ◌%◌, ◌*◌}
use Rattle.std.proofs.Common.{sym, ◌∙◌, ap, ap₂, subst}
use Rattle.std.specs.Int.{◌∣◌}
use Rattle.definitions.specs.Polynomials.{product}
use Rattle.definitions.specs.Resultants.{resultant, Reduced}
use Rattle.law_polynomials.specs.ReachedLaws.{reduced_product}
use Rattle.law_polynomials.specs.ResultantLaws.{law_of_products}

-- S61: "They are the product of f and g, then the resultant and the D of that product, of f and of g, each as first polynomial with h as
-- second."
pub record SevenAnswers (n : ℕ) (f g h p : List ℕ) (r rf rg D Df Dg : ℕ) : Type 0 where
  pub product_of : p ≡ product n f g
  pub resultant_of_product : r ≡ resultant n p h
  pub resultant_of_first : rf ≡ resultant n f h
  pub resultant_of_second : rg ≡ resultant n g h
  pub reduced_of_product : Reduced n p h D
  pub reduced_of_first : Reduced n f h Df
  pub reduced_of_second : Reduced n g h Dg

-- S61: "The resultants are compared as residues from 0 to n - 1, the three D as whole numbers."
pub record LawOfProducts (n r rf rg D Df Dg : ℕ) : Type 0 where
  pub resultants : r ≡ (rf * rg) % n
  pub multiple_of_first : Df ∣ D
  pub multiple_of_second : Dg ∣ D
  pub divides_product : D ∣ Df * Dg

-- POINT 3: the resultant of the product is the product of the resultants modulo n, for all words and every n, zero top words and divisors
-- of zero included; D of the product is a multiple of the D of each factor and divides their ordinary product.
pub point_three : (n : ℕ) → 1 ≤ n → (f g h p : List ℕ) (r rf rg D Df Dg : ℕ) → SevenAnswers n f g h p r rf rg D Df Dg
    → LawOfProducts n r rf rg D Df Dg
point_three n l f g h p r rf rg D Df Dg a =
    let d = reduced_product n l f g h D Df Dg (subst (λ (q : List ℕ). Reduced n q h D) a.product_of a.reduced_of_product)
    a.reduced_of_first a.reduced_of_second in
    record {
      resultants =
          a.resultant_of_product ∙ ap (λ (q : List ℕ). resultant n q h) a.product_of ∙ law_of_products n l f g h
          ∙ ap₂ (λ x y. (x * y) % n) (sym a.resultant_of_first) (sym a.resultant_of_second);
      multiple_of_first = d.0;
      multiple_of_second = d.1;
      divides_product = d.2;
    }
