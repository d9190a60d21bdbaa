-- The definitions at the numbers of S92, where a run goes astray: each check here fails if its definition is changed in the way that the
-- clause warns of.
--
--   convolve_beyond    a product has no words beyond its length
--   degree_of_zero, degree_of_constant     the zero polynomial has no degree, the constant 5 has degree 0
--   zero_top_of           zero top words count in Sylvester's matrix
--   long_multipliers   multipliers may be longer than e and d words
--   bivariate_0, bivariate_1, bivariate_3, bivariate_uneven     words of resultants of two variables, from another program
use Rattle.std.specs.Prelude.{◌≡◌, refl, List, [], ◌∷◌, ℕ, zero, suc, ◌+◌, ◌*◌, ◌-◌, ◌%◌, ◌<◌, ◌≤◌, length}
use Rattle.std.proofs.Common.{◌∙◌, ap, ap₂, mul-zero, zero-mul, arith}
use Rattle.std.proofs.Math.Decide.{dec_lt}
use Rattle.std.proofs.Math.Nat.{eq-one_of_dvd-one}
use Rattle.std.proofs.Math.ListN.{get_or-eq_default}
use Rattle.definitions.specs.Expansions.{expansion}
use Rattle.definitions.specs.Polynomials.{coef, total, convolve, extent, none, place, true_degree}
use Rattle.definitions.specs.Resultants.{resultant, Reached, Reduced}
use Rattle.definitions.specs.Bivariate.{bivariate_resultant_of}

total_zero : (n : ℕ) (F : ℕ → ℕ) → ((i : ℕ) → F i ≡ 0) → total n F ≡ 0
total_zero zero F h = refl
total_zero (suc n) F h = ap₂ ◌+◌ (h 0) (total_zero n (λ i. F (suc i)) (λ i. h (suc i)))

pub convolve_beyond : (p q : List ℕ) (k : ℕ) → length p + length q ≤ suc k → convolve (coef p) (coef q) k ≡ 0
convolve_beyond p q k l = total_zero (suc k) _ (λ i. go i (dec_lt i (length p)))
  where
    go : (i : ℕ) → Dec (i < length p) → coef p i * coef q (k - i) ≡ 0
    go i (yes h) = ap (λ x. coef p i * x) (get_or-eq_default q 0 {n = k - i} (omega arith)) ∙ mul-zero (coef p i)
    go i (no h) = ap (λ x. x * coef q (k - i)) (get_or-eq_default p 0 {n = i} (omega arith)) ∙ zero-mul (coef q (k - i))

-- S18: "a zero polynomial and the constant 5 may no longer both show degree 0"
degree_of_zero : true_degree (0 ∷ 0 ∷ []) ≡ none
unfolding extent
degree_of_zero = refl

degree_of_constant : true_degree (5 ∷ 0 ∷ []) ≡ place 0
unfolding extent
degree_of_constant = refl

-- S92: "Zero top words dropped: the row modulo 5 with f = 2,1,0 becomes 4 instead of 1."
zero_top_of : resultant 5 (2 ∷ 1 ∷ 0 ∷ []) (1 ∷ 1 ∷ []) ≡ 1
unfolding resultant expansion extent
zero_top_of = refl

-- S92: "Cofactors of D cut to degrees below e and d: modulo 4, 1,2 and 3,2 have none so short."
pub long_multipliers : Reached 4 (1 ∷ 2 ∷ []) (3 ∷ 2 ∷ []) 1
unfolding resultant expansion
long_multipliers = record {
  u = 1 ∷ 2 ∷ [];
  v = [];
  combination = record {
    sum = elim [
      | zero ↦ refl
      | suc zero ↦ refl
      | suc (suc zero) ↦ refl
      | suc (suc (suc k)) ↦ ap₂ (λ x y. (x + y) % 4) (convolve_beyond (1 ∷ 2 ∷ []) (1 ∷ 2 ∷ []) (suc (suc (suc k))) (omega arith))
          (convolve_beyond [] (3 ∷ 2 ∷ []) (suc (suc (suc k))) (omega arith))
    ];
  };
}

-- f = 1 + 2z + (3 + 4z) y, g = 5 + 6z + (7 + 8z) y + (9 + 10z) y²
bivariate_0 : bivariate_resultant_of 1009 1 1 2 1 (1 ∷ 2 ∷ 3 ∷ 4 ∷ []) (5 ∷ 6 ∷ 7 ∷ 8 ∷ 9 ∷ 10 ∷ []) 0 ≡ 33
unfolding bivariate_resultant_of expansion
bivariate_0 = refl

bivariate_1 : bivariate_resultant_of 1009 1 1 2 1 (1 ∷ 2 ∷ 3 ∷ 4 ∷ []) (5 ∷ 6 ∷ 7 ∷ 8 ∷ 9 ∷ 10 ∷ []) 1 ≡ 126
unfolding bivariate_resultant_of expansion
bivariate_1 = refl

bivariate_3 : bivariate_resultant_of 1009 1 1 2 1 (1 ∷ 2 ∷ 3 ∷ 4 ∷ []) (5 ∷ 6 ∷ 7 ∷ 8 ∷ 9 ∷ 10 ∷ []) 3 ≡ 72
unfolding bivariate_resultant_of expansion
bivariate_3 = refl

-- f of degree 2 in z, g of degree 1
bivariate_uneven : bivariate_resultant_of 1009 1 2 1 1 (1 ∷ 2 ∷ 3 ∷ 4 ∷ 5 ∷ 6 ∷ []) (5 ∷ 6 ∷ 7 ∷ 8 ∷ []) 3 ≡ 12
unfolding bivariate_resultant_of expansion
bivariate_uneven = refl
