-- The polynomials in the buffer: f from 0 on, g from length g on.
--
--   started    what stands there
use mathlib.Core.Path.{◌≡◌, refl, sym, ap, ◌∙◌, subst}
use mathlib.Core.List.{List}
use mathlib.Core.Bool.{false}
use mathlib.Core.Logic.{⊎_elim}
use Prim.Native.Nat.{ℕ, suc, pred, ◌+◌, ◌-◌, ◌*◌, ◌%◌, ◌≤◌, ◌<◌}
use native.Mathlib.Omega.{arith}
use native.Mathlib.Nat.{mod-mod, mod-eq_of_lt}
use lib.ListN.{length, get_or}
use Rattle.definitions.specs.Polynomials.{coef}
use Rattle.definitions.specs.Resultants.{resultant}
use Rattle.law_polynomials.specs.ReachedSteps.{coef_beyond}
use Rattle.law_polynomials.specs.ResultantLaws.{resultant_cong}
use Rattle.windows.specs.Window.{piece}
use Rattle.windows.proofs.Leaf.{lt_or_le, piece_at, piece_over, piece_length}
use Rattle.modulus.specs.declared.Modulus.{Modulus}
use Rattle.modulus.specs.Values.{Enters, value, values}
use Rattle.modulus_windows.specs.LoopPromises.{Entered}
use Rattle.modulus_windows.proofs.Forms.{values_length}
use Rattle.euclid_steps.specs.Multiplied.{Asked}
use Rattle.euclid_multipliers.specs.StepsInBuffer.{Started}

module _ (m : Modulus) (f g w w₁ v : List ℕ) (two : 2 ≤ m.n) (k : Asked f g w) (lf : Entered m 0 f w w₁)
    (lg : Entered m (length g) g w₁ v) where
  same : length v ≡ length w
  same = lg.around.same ∙ lf.around.same

  fits : length g + length g + 5 * (length f - 1 + (length g - 1)) ≤ length v
  fits = omega (arith, k.some, k.order, k.room, same)

  f_word : (i : ℕ) → i < length f → get_or (values m v) (0 + i) 0 ≡ coef f i % m.n
  f_word i l = lg.stands.low (0 + i) (omega (arith, k.order)) ∙ lf.stands.mid i l

  first_is : (i : ℕ) → coef (piece (values m v) 0 (length f - 1 + 1)) i % m.n ≡ coef f i % m.n
  first_is i =
      ⊎_elim
      (λ l. ap (λ (x : ℕ). x % m.n) (piece_at (values m v) 0 (length f - 1 + 1) i (omega arith) ∙ f_word i l) ∙ mod-mod (coef f i) m.n)
      (λ l. ap (λ (x : ℕ). x % m.n)
      (piece_over (values m v) 0 (length f - 1 + 1) i (omega (arith, k.some)) ∙ sym (coef_beyond f i l))) (lt_or_le i (length f))

  second_is : (i : ℕ) → coef (piece (values m v) (length g) (length g - 1 + 1)) i % m.n ≡ coef g i % m.n
  second_is i =
      ⊎_elim
      (λ l. ap (λ (x : ℕ). x % m.n) (piece_at (values m v) (length g) (length g - 1 + 1) i (omega arith) ∙ lg.stands.mid i l)
      ∙ mod-mod (coef g i) m.n)
      (λ l. ap (λ (x : ℕ). x % m.n)
      (piece_over (values m v) (length g) (length g - 1 + 1) i (omega (arith, k.some, k.order)) ∙ sym (coef_beyond g i l)))
      (lt_or_le i (length g))

  resultant_same : (n : ℕ) → m.n ≡ suc n → resultant m.n (piece (values m v) 0 (length f - 1 + 1))
      (piece (values m v) (length g) (length g - 1 + 1)) ≡ resultant m.n f g
  resultant_same n e =
      subst (λ (x : ℕ). resultant x (piece (values m v) 0 (length f - 1 + 1)) (piece (values m v) (length g) (length g - 1 + 1))
      ≡ resultant x f g) (sym e)
      (resultant_cong n (piece (values m v) 0 (length f - 1 + 1)) f (piece (values m v) (length g) (length g - 1 + 1)) g
      (ap pred (piece_length (values m v) 0 (length f - 1 + 1) (omega (arith, fits, size_g, k.order, values_length m v)) ∙ size_f))
      (ap pred (piece_length (values m v) (length g) (length g - 1 + 1) (omega (arith, fits, size_g, values_length m v)) ∙ size_g))
      (λ i. subst (λ (x : ℕ). coef (piece (values m v) 0 (length f - 1 + 1)) i % x ≡ coef f i % x) e (first_is i))
      (λ i. subst (λ (x : ℕ). coef (piece (values m v) (length g) (length g - 1 + 1)) i % x ≡ coef g i % x) e (second_is i)))
    where
      size_f : length f - 1 + 1 ≡ length f
      size_f = omega (arith, k.some)

      size_g : length g - 1 + 1 ≡ length g
      size_g = omega (arith, k.some, k.order)

  pub started : (u : ℕ) → Enters m 1 u → Started m f g w
      (record { a = 0; d = length f - 1; b = length g; e = length g - 1; s = u; p = u; t = u; y = 0; c = 0; k = 0; swap = false }) v
  started u e = record {
    same = same;
    asked = record {
      standing = record {
        placed = record {
          pos = omega arith;
          near = omega (arith, k.order);
          first = omega (arith, fits, k.some, k.order);
          second = omega (arith, fits, k.some, k.order);
          pair = record {
            first = record {
              at = λ i l. subst (λ (x : ℕ). x < m.n) (sym (lg.around.low (0 + i) (omega (arith, k.some, k.order))))
                  (lf.below.at i (omega (arith, k.some)));
            };
            second = record { at = λ i l. lg.below.at i (omega (arith, k.some, k.order)) };
            apart = record { ok = λ i j p q h. omega (arith, k.some, k.order) };
          };
        };
        s_below = e.0;
        p_below = e.0;
        t_below = e.0;
      };
      under_a = omega arith;
      under_b = omega arith;
      high = omega (arith, k.some, k.order);
      room = fits;
    };
    d_is = refl;
    e_is = refl;
    s_is = one;
    p_is = one;
    t_is = one;
    first = first_is;
    second = second_is;
    resultant_is = resultant_same (m.n - 1) (omega arith);
  }
    where
      one : value m u ≡ 1
      one = e.1 ∙ mod-eq_of_lt (omega arith)
