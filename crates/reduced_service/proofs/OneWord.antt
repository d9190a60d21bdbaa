-- Two polynomials of one word each: D of the two words, and the cofactors that are constants.
--
--   put_in_front           a buffer of zeros with x in front is the constant x
--   constants_certified    D is their reduced resultant, and the constants combine them to it
--   constants_least        they follow the rule
--   other_first, other_second     of other polynomials the rule says nothing
--   constants              the rules
use mathlib.Core.Path.{◌≡◌, sym, ap, ap₂, subst, fun_ext, ◌∙◌}
use mathlib.Core.List.{List}
use Prim.Native.Nat.{ℕ, zero, suc, pred, ◌+◌, ◌*◌, ◌%◌, ◌<◌, ◌≤◌, ◌∣◌}
use native.Mathlib.Nat.{mul-zero, dvd-add, dvd-mul_left_of_dvd}
use native.Mathlib.Omega.{arith}
use borrow.Author.Rules.{rules}
use lib.ListN.{length, replicate, set, get_or-eq_default, length-replicate}
use lib.Seq.{get_or-set_same, get_or-set_other}
use Rattle.definitions.specs.Residues.{LeastCofactors}
use Rattle.definitions.specs.Polynomials.{coef, convolve, constant, L}
use Rattle.definitions.specs.Resultants.{Combination, Reached}
use Rattle.law_numbers.specs.Congruence.{Cong, c_trans, c_sym, c_dvd, c_zero, dvd_c}
use Rattle.law_polynomials.specs.Words.{convolve_zero}
use Rattle.law_polynomials.specs.ReachedSteps.{convolve_constant}
use Rattle.law_polynomials.specs.ReachedLaws.{reduced_from}
use Rattle.convolution.specs.Sums.{zeros_at}
use Rattle.reduced_cofactors.specs.Cofactors.{Certified}
use Rattle.reduced.specs.Runs.{RunAsked}
use Rattle.reduced_service.specs.ReducedService.{LeastConstants}
use Rattle.reduced_service.specs.Constants.{HoldsConstant, ConstantCofactors}

-- a buffer of zeros with x in front
pub put_in_front : {x : ℕ} {w' : List ℕ} (u w : List ℕ) → w ≡ replicate (length u) 0 → 1 ≤ length u → w' ≡ set w 0 x → HoldsConstant x w'
put_in_front {x} u w e h i = rw (i, e) (record { at = at (length u) h })
  where
    at : (l : ℕ) → 1 ≤ l → (k : ℕ) → coef (set (replicate l 0) 0 x) k ≡ constant x k
    at l h zero = get_or-set_same (replicate l 0) 0 x 0 (omega (arith, length-replicate {A = ℕ} l 0))
    at l h (suc k) = get_or-set_other (replicate l 0) 0 (suc k) x 0 (λ e. absurd (omega arith)) ∙ zeros_at l (suc k)

constant_below : {n x : ℕ} {u : List ℕ} → x < n → HoldsConstant x u → (k : ℕ) → coef u k < n
constant_below {n} {x} {u} l h zero = subst (λ (y : ℕ). y < n) (sym (h.at 0)) l
constant_below {n} {x} {u} l h (suc k) = subst (λ (y : ℕ). y < n) (sym (h.at (suc k))) (omega arith)

constant_short : {x len : ℕ} {u : List ℕ} → 1 ≤ len → HoldsConstant x u → (k : ℕ) → len ≤ k → coef u k ≡ 0
constant_short l h zero q = absurd (omega arith)
constant_short l h (suc k) q = h.at (suc k)

side : (x u : List ℕ) (s : ℕ) → HoldsConstant s u → (k : ℕ) → convolve (coef u) (coef x) k ≡ s * coef x k
side x u s h k = ap (λ (F : ℕ → ℕ). convolve F (coef x) k) (fun_ext h.at) ∙ convolve_constant s (coef x) k

none_above : (x : List ℕ) (s k : ℕ) → length x ≡ 1 → s * coef x (suc k) ≡ 0
none_above x s k e = ap (λ (y : ℕ). s * y) (get_or-eq_default x 0 {n = suc k} (omega arith)) ∙ mul-zero s

module _ {n D : ℕ} {f g u v x y w : List ℕ} (asked : RunAsked n f g x y w) (lf : length f ≤ 1) (lg : length g ≤ 1)
    (c : ConstantCofactors n (coef f 0) (coef g 0) u v D) where
  ef : length f ≡ 1
  ef = omega (arith, lf, asked.some_f)

  eg : length g ≡ 1
  eg = omega (arith, lg, asked.some_g)

  pos : 1 ≤ n
  pos = omega (arith, asked.modulus)

  sum_at : (k : ℕ) → (convolve (coef u) (coef f) k + convolve (coef v) (coef g) k) % n ≡ constant D k % n
  sum_at zero = ap₂ (λ (x y : ℕ). (x + y) % n) (side f u c.s c.first 0) (side g v c.t c.second 0) ∙ c.cofactors.sum
  sum_at (suc k) =
      ap₂ (λ (x y : ℕ). (x + y) % n) (side f u c.s c.first (suc k) ∙ none_above f c.s k ef)
      (side g v c.t c.second (suc k) ∙ none_above g c.t k eg)

  combined : Combination n f g u v D
  combined = record { sum = sum_at }

  -- D divides both words and n, and so what they combine to
  reached_divides : (x : ℕ) → Reached n f g x → D ∣ x
  reached_divides x r =
      let a : ℕ = coef r.u 0 in
      let b : ℕ = coef r.v 0 in
      let e : Cong n (a * coef f 0 + b * coef g 0) x = record {
        same = ap₂ (λ (y z : ℕ). (y + z) % n) (sym (convolve_zero (coef r.u) (coef f))) (sym (convolve_zero (coef r.v) (coef g)))
            ∙ r.combination.sum 0;
      } in
      dvd_c (c_trans (c_sym (c_dvd c.cofactors.gcd.divides_n e))
      (c_zero (dvd-add D (dvd-mul_left_of_dvd D c.cofactors.gcd.divides_a a)
      (dvd-mul_left_of_dvd D c.cofactors.gcd.divides_b b))))

  pub constants_certified : (a b : ℕ) → Certified n (L n a b) f g u v D
  constants_certified a b = record {
    reduced = reduced_from n D f g pos c.cofactors.gcd.divides_n c.cofactors.least c.cofactors.most
        (record { u = u; v = v; combination = combined }) reached_divides;
    combination = combined;
    below_u = constant_below c.cofactors.below_s c.first;
    below_v = constant_below c.cofactors.below_t c.second;
    short_u = constant_short (omega arith) c.first;
    short_v = constant_short (omega arith) c.second;
  }

  pub constants_least : LeastConstants n f g u v D
  constants_least = record {
    pair = λ _ _. subst (λ (x : ℕ). LeastCofactors n (coef f 0) (coef g 0) D x (coef v 0)) (sym (c.first.at 0))
        (subst (LeastCofactors n (coef f 0) (coef g 0) D c.s) (sym (c.second.at 0)) c.least);
  }

one_word : (l : ℕ) → 1 ≤ l → pred l ≡ 0 → l ≡ 1
one_word l h e = omega arith

module _ {n D : ℕ} {f g u v : List ℕ} (x y w : List ℕ) (asked : RunAsked n f g x y w) where
  pub other_first : (length f ≡ 1 → ⊥) → LeastConstants n f g u v D
  other_first unlike = record { pair = λ p _. absurd (unlike (one_word (length f) asked.some_f p)) }

  pub other_second : (length g ≡ 1 → ⊥) → LeastConstants n f g u v D
  other_second unlike = record { pair = λ _ p. absurd (unlike (one_word (length g) asked.some_g p)) }

pub ruleset constants = (rules, put_in_front, constants_certified, constants_least, other_first, other_second)
