-- From words to the ring: the definitions' determinant, resultant and sums of products are those of the algebra over Z/(m + 1), so that its
-- theorems speak of words.
--
--   words m f           the coefficients of f as residues modulo m + 1
--   coef_tabulate, length_tabulate    the words of a tabulated list
--   determinant_is, sylvester_is, resultant_is    determinant, Sylvester's matrix and resultant
--   convolve_is, multiplied_is, divided_is        products, f = a b, and f = q g + r
--   words_product       the product word list
--   words_cong          words count modulo n only
--
-- Letters: m is n less 1; f, g, q, r, a, b are word lists, p, q sequences of numbers; d, e are sent degrees; k is a place.
use Rattle.std.specs.Prelude.{◌≡◌, refl, List, [], ◌∷◌, ℕ, zero, suc, ◌<◌, ◌≤◌, ◌%◌, ◌+◌ as ◌+ℕ◌, ◌*◌ as ◌*ℕ◌, ◌-◌ as ◌-ℕ◌, ℤ, pos, negsuc, length}
use Rattle.std.proofs.Common.{sym, ◌∙◌, ap, ap₂, arith}
use Rattle.std.proofs.Math.Path.{fun_ext}
use native.Mathlib.Fin
use Rattle.std.proofs.Math.Decide.{dec_le}
use Rattle.std.proofs.Math.Nat.{mod-mod}
use Rattle.std.proofs.Math.ListN.{get_or-eq_default}
use Rattle.definitions.specs.Polynomials.{coef, deg, total, convolve, tabulate, product, Divided, Multiplied}
use Rattle.definitions.specs.Resultants.{sylvester, determinant, residue, resultant}
use Rattle.law_algebra.specs.Determinant.{det}
use Rattle.law_algebra.specs.Integers.{ℤ_ring}
use Rattle.law_algebra.specs.Reduction.{reduce, reduce_hom}
use Rattle.law_algebra.specs.Residues.{Res, toRes, Res_ring}
use Rattle.law_algebra.specs.Resultant.{res_mod, res}
use Rattle.law_algebra.specs.Reverse.{rv_hom, rv}
use Rattle.law_algebra.specs.SentLaws.{Rs}
use Rattle.law_algebra.specs.Series.{conv, conv_out}
use Rattle.law_polynomials.specs.ExpansionLaws.{determinant_of, expansion_is}

pub coef_out : (f : List ℕ) (k : ℕ) → deg f < k → coef f k ≡ 0
coef_out [] zero l = absurd (omega arith)
coef_out [] (suc k) l = refl
coef_out (x ∷ f) k l = get_or-eq_default (x ∷ f) 0 {n = k} (omega arith)

pub coef_tabulate : (n : ℕ) (F : ℕ → ℕ) (k : ℕ) → k < n → coef (tabulate n F) k ≡ F k
coef_tabulate zero F k l = absurd (omega arith)
coef_tabulate (suc n) F zero l = refl
coef_tabulate (suc n) F (suc k) l = coef_tabulate n (λ i. F (suc i)) k (omega arith)

pub length_tabulate : (n : ℕ) (F : ℕ → ℕ) → length (tabulate n F) ≡ n
length_tabulate zero F = refl
length_tabulate (suc n) F = ap suc (length_tabulate n (λ i. F (suc i)))

pub residue_reduce : (m : ℕ) (z : ℤ) → residue (suc m) z ≡ (reduce m z).0
residue_reduce m (pos a) = refl
residue_reduce m (negsuc a) = refl

abbrev pub whole : List ℕ → ℕ → ℤ
whole f k = pos (coef f k)

abbrev pub words : (m : ℕ) → List ℕ → ℕ → Res m
words m f k = toRes m (coef f k)

-- the reader's determinant is the ring's, over the integers
pub determinant_is : (n : ℕ) (a : ℕ → ℕ → ℤ) → determinant n a ≡ det ℤ_ring n a
determinant_is = determinant_of ℤ_ring

pub sylvester_is : (f g : List ℕ) → determinant (deg f +ℕ deg g) (sylvester f g) ≡ Rs ℤ_ring (deg f) (deg g) (whole f) (whole g)
sylvester_is f g = expansion_is ℤ_ring (deg f) (deg g) (whole f) (whole g)

-- the resultant of words is the ring's
pub resultant_is : (m : ℕ) (f g : List ℕ) → resultant (suc m) f g ≡ (Rs (Res_ring m) (deg f) (deg g) (words m f) (words m g)).0
unfolding resultant
resultant_is m f g =
    residue_reduce m (determinant (deg f +ℕ deg g) (sylvester f g))
    ∙ ap (λ (z : Res m). z.0) (ap (reduce m) (sylvester_is f g)
    ∙ res_mod m (deg g) (deg f) (rv ℤ_ring (deg f) (whole f)) (rv ℤ_ring (deg g) (whole g))
    ∙ ap₂ (res (Res_ring m) (deg g) (deg f)) (fun_ext (rv_hom ℤ_ring (Res_ring m) (reduce m) (reduce_hom m) (deg f) (whole f)))
    (fun_ext (rv_hom ℤ_ring (Res_ring m) (reduce m) (reduce_hom m) (deg g) (whole g))))

pub total_cong : (n : ℕ) (F G : ℕ → ℕ) → ((i : ℕ) → i < n → F i ≡ G i) → total n F ≡ total n G
total_cong zero F G h = refl
total_cong (suc n) F G h = ap₂ ◌+ℕ◌ (h 0 (omega arith)) (total_cong n (λ i. F (suc i)) (λ i. G (suc i)) (λ i l. h (suc i) (omega arith)))

pub convolve_zero : (p q : ℕ → ℕ) → convolve p q 0 ≡ p 0 *ℕ q 0
convolve_zero p q = omega arith

pub convolve_suc : (p q : ℕ → ℕ) (k : ℕ) → convolve p q (suc k) ≡ p 0 *ℕ q (suc k) +ℕ convolve (λ i. p (suc i)) q k
convolve_suc p q k = ap₂ (λ x y. p 0 *ℕ q x +ℕ y) (whole_of k) (total_cong (suc k) _ _ (λ i l. ap (λ x. p (suc i) *ℕ q x) (less k i)))
  where
    whole_of : (k : ℕ) → suc k -ℕ 0 ≡ suc k
    whole_of k = omega arith

    less : (k i : ℕ) → suc k -ℕ suc i ≡ k -ℕ i
    less k i = omega arith

-- the sum of products of words is the ring's
pub convolve_is : (m : ℕ) (p q : ℕ → ℕ) (k : ℕ) → toRes m (convolve p q k) ≡ conv (Res_ring m) (λ i. toRes m (p i)) (λ i. toRes m (q i)) k
convolve_is m p q zero = ap (toRes m) (convolve_zero p q) ∙ (reduce_hom m).h_mul (pos (p 0)) (pos (q 0))
convolve_is m p q (suc k) =
    ap (toRes m) (convolve_suc p q k) ∙ (reduce_hom m).h_add (pos (p 0 *ℕ q (suc k))) (pos (convolve (λ i. p (suc i)) q k))
    ∙ ap₂ (Res_ring m).add ((reduce_hom m).h_mul (pos (p 0)) (pos (q (suc k)))) (convolve_is m (λ i. p (suc i)) q k)

-- equations between words are equations of series
pub multiplied_is : (m : ℕ) (f a b : List ℕ) → Multiplied (suc m) f a b → words m f ≡ conv (Res_ring m) (words m a) (words m b)
multiplied_is m f a b h = fun_ext (λ k. Fin.val_path (h.at k) ∙ convolve_is m (coef a) (coef b) k)

pub divided_is : (m : ℕ) (f g q r : List ℕ) → Divided (suc m) f g q r
    → words m f ≡ (λ k. (Res_ring m).add (conv (Res_ring m) (words m q) (words m g) k) (words m r k))
divided_is m f g q r h =
    fun_ext (λ k. sym (Fin.val_path (h.at k)) ∙ (reduce_hom m).h_add (pos (convolve (coef q) (coef g) k)) (pos (coef r k))
    ∙ ap (λ (x : Res m). (Res_ring m).add x (words m r k)) (convolve_is m (coef q) (coef g) k))

-- words count modulo n only
pub words_cong : (m : ℕ) (f f' : List ℕ) → ((k : ℕ) → coef f k % suc m ≡ coef f' k % suc m) → words m f ≡ words m f'
words_cong m f f' h = fun_ext (λ k. Fin.val_path (h k))

pub words_out : (m : ℕ) (f : List ℕ) (k : ℕ) → deg f < k → words m f k ≡ toRes m 0
words_out m f k l = ap (toRes m) (coef_out f k l)

pub deg_product : (n : ℕ) (f g : List ℕ) → deg (product n f g) ≡ deg f +ℕ deg g
deg_product n f g = length_tabulate (deg f +ℕ deg g) (λ i. convolve (coef f) (coef g) (suc i) % n)

pub words_product : (m : ℕ) (f g : List ℕ) (k : ℕ) → words m (product (suc m) f g) k ≡ conv (Res_ring m) (words m f) (words m g) k
words_product m f g k = go (dec_le k (deg f +ℕ deg g))
  where
    go : Dec (k ≤ deg f +ℕ deg g) → words m (product (suc m) f g) k ≡ conv (Res_ring m) (words m f) (words m g) k
    go (yes l) =
        ap (toRes m) (coef_tabulate (suc (deg f +ℕ deg g)) (λ k. convolve (coef f) (coef g) k % suc m) k (omega arith))
        ∙ Fin.val_path (mod-mod (convolve (coef f) (coef g) k) (suc m)) ∙ convolve_is m (coef f) (coef g) k
    go (no l) =
        words_out m (product (suc m) f g) k (omega (arith, deg_product (suc m) f g))
        ∙ sym (conv_out (Res_ring m) (deg f) (deg g) (words m f) (words m g) (words_out m f) (words_out m g) k (omega arith))
