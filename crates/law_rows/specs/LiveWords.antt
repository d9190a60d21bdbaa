-- The live rows in words, and what the last of them says of the answer.
--
--   LiveWords m f g s l p q x W X Y     Live over Z/(m + 1), with the words of f and g, x, W, X and Y as numbers
--   words_value       the resultant is x times the last word
--   words_answer      x times the last row's multipliers are cofactors of the resultant
--
-- Letters: m is n less 1; u, v are the word lists of the answer, of e and d words.
use Rattle.std.specs.Prelude.{◌≡◌, refl, List, ℕ, zero, suc, ◌<◌, ◌≤◌, ◌%◌, ◌+◌ as ◌+ℕ◌, ◌*◌ as ◌*ℕ◌, ◌-◌ as ◌-ℕ◌, pos}
use Rattle.std.proofs.Common.{sym, ◌∙◌, ap, ap₂, mod-eq_of_lt, arith}
use Rattle.std.proofs.Math.Path.{fun_ext}
use native.Mathlib.Fin
use Rattle.definitions.specs.Polynomials.{coef, deg, convolve, constant}
use Rattle.definitions.specs.Resultants.{resultant, Combination}
use Rattle.law_algebra.specs.Reduction.{reduce_hom}
use Rattle.law_algebra.specs.Residues.{Res, toRes, Res_ring, mul_mod}
use Rattle.law_algebra.specs.Ring.{CRing}
use Rattle.law_algebra.specs.SentLaws.{Rs}
use Rattle.law_algebra.specs.Series.{conv, const}
use Rattle.law_polynomials.specs.ReachedLaws.{constant_is}
use Rattle.law_polynomials.specs.Words.{words, convolve_is, resultant_is}
use Rattle.law_rows.specs.LiveRows.{Live, live_value, live_combines}

module _ (m : ℕ) where
  pub record LiveWords (f g : List ℕ) (s l p q x : ℕ) (W X Y : ℕ → ℕ → ℕ) : Type 0 where
    pub rows : Live (Res_ring m) (deg f) (deg g) (words m f) (words m g) s l p q (toRes m x)
        (λ i c. toRes m (W i c)) (λ i c. toRes m (X i c)) (λ i c. toRes m (Y i c))

  pub words_value : (f g : List ℕ) (x : ℕ) (W X Y : ℕ → ℕ → ℕ) → LiveWords f g 1 1 0 0 x W X Y
      → resultant (suc m) f g ≡ (x *ℕ W 0 0) % suc m
  words_value f g x W X Y t =
      resultant_is m f g ∙ ap (λ (z : Res m). z.0) (live_value (Res_ring m) (deg f) (deg g) (words m f) (words m g) t.rows)
      ∙ sym (mul_mod x (W 0 0) (suc m))

  pub words_answer : (f g u v : List ℕ) (x : ℕ) (W X Y : ℕ → ℕ → ℕ) → LiveWords f g 1 1 0 0 x W X Y
      → ((k : ℕ) → coef u k % suc m ≡ (x *ℕ X 0 k) % suc m) → ((k : ℕ) → coef v k % suc m ≡ (x *ℕ Y 0 k) % suc m)
      → Combination (suc m) f g u v (resultant (suc m) f g)
  words_answer f g u v x W X Y t hu hv = record { sum = λ k. ap (λ (z : Res m). z.0) (go k) }
    where
      scaled : (u : List ℕ) (Z : ℕ → ℕ) → ((k : ℕ) → coef u k % suc m ≡ (x *ℕ Z k) % suc m)
          → words m u ≡ (λ k. (Res_ring m).mul (toRes m x) (toRes m (Z k)))
      scaled u Z h = fun_ext (λ k. Fin.val_path (h k) ∙ (reduce_hom m).h_mul (pos x) (pos (Z k)))

      below : toRes m (resultant (suc m) f g) ≡ Rs (Res_ring m) (deg f) (deg g) (words m f) (words m g)
      below = ap (toRes m) (resultant_is m f g) ∙ Fin.val_path (mod-eq_of_lt (Rs (Res_ring m) (deg f) (deg g) (words m f) (words m g)).1)

      go : (k : ℕ) → toRes m (convolve (coef u) (coef f) k +ℕ convolve (coef v) (coef g) k) ≡ toRes m (constant (resultant (suc m) f g) k)
      go k =
          (reduce_hom m).h_add (pos (convolve (coef u) (coef f) k)) (pos (convolve (coef v) (coef g) k))
          ∙ ap₂ (Res_ring m).add (convolve_is m (coef u) (coef f) k) (convolve_is m (coef v) (coef g) k)
          ∙ ap₂ (λ (p q : ℕ → Res m). (Res_ring m).add (conv (Res_ring m) p (words m f) k) (conv (Res_ring m) q (words m g) k))
          (scaled u (X 0) hu) (scaled v (Y 0) hv)
          ∙ live_combines (Res_ring m) (deg f) (deg g) (words m f) (words m g) t.rows k
          ∙ sym (constant_is m (resultant (suc m) f g) k ∙ ap (λ (z : Res m). const (Res_ring m) z k) below)
