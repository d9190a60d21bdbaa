-- A multiplier over a unit polynomial, at any width: its product with the negated inverse is taken from zeros, and put in its place.
--
--   over_product, over_modulo    what the product asks
--   over_done                    what comes of it
--   overs                        the rules
use mathlib.Core.Path.{◌≡◌, refl, sym, ap, ap₂, subst, ◌∙◌, fun_ext}
use mathlib.Core.List.{List, []}
use mathlib.Core.Logic.{⊎_elim}
use Prim.Native.Nat.{ℕ, zero, suc, ◌+◌, ◌-◌, ◌*◌, ◌%◌, ◌≤◌, ◌<◌}
use native.Mathlib.Omega.{arith}
use borrow.Author.Rules.{rules}
use lib.ListN.{length, get_or}
use Rattle.definitions.specs.Polynomials.{coef, convolve}
use Rattle.law_polynomials.specs.ReachedSteps.{coef_beyond}
use Rattle.windows.specs.Window.{piece, Moved, zeroed, second, Below, Around, Apart, Outside}
use Rattle.windows.proofs.Leaf.{lt_or_le, piece_at, piece_over, around_at}
use Rattle.windows.proofs.Lift.{moved_around}
use Rattle.law_multipliers.specs.Multipliers.{Taken}
use Rattle.reduced_products.specs.Products.{ProductAsked, Factors, FactorsModulo, MonicAtZero, TakenFrom}
use Rattle.reduced_units.specs.States.{Multiplier}
use Rattle.reduced_units.specs.Factorings.{OverAsked, OverUnit}
use Rattle.reduced_units.proofs.Regions.{apart_low, apart_swap, below_apart, piece_apart, multiplier_apart, multiplier_short}
use Rattle.reduced_units.proofs.Regions.{monic_apart}

module _ (n t x len be l y : ℕ) (w w₁ : List ℕ) (asked : OverAsked n t x len be l y w) (cl : Moved zeroed y y (len + t) w w₁) where
  cleared : Around y (len + t) w w₁
  cleared = moved_around cl

  over_monic : MonicAtZero n t w₁
  over_monic = monic_apart (omega arith) cleared asked.monic

  mu₁ : Multiplier n t be l w₁
  mu₁ = multiplier_apart (apart_low be (2 * (t + 1)) y (len + t) (omega arith)) cleared asked.multiplier

  over_factors : Factors n x len be l y w₁
  over_factors = record {
    first = below_apart (apart_low x len y (len + t) asked.last) cleared asked.below;
    second = record { at = λ k h. mu₁.below.at k (omega arith) };
    product = record { at = λ k h. subst (λ (z : ℕ). z < n) (sym (cl.mid k (omega arith))) asked.positive };
    apart_first = apart_low x len y (len + l - 1) asked.last;
    apart_second = apart_low be l y (len + l - 1) (omega arith);
  }

  pub over_product : ProductAsked n x len be l y w₁
  over_product = record {
    modulus = asked.positive;
    some_first = asked.some_inverse;
    some_second = asked.some;
    first = omega (arith, cl.same);
    second = omega (arith, cl.same);
    product = omega (arith, cl.same);
  }

  pub over_modulo : FactorsModulo n t x len be l y w₁
  over_modulo = record { factors = over_factors; degree = asked.degree; after = omega arith; monic = over_monic }

  module _ (r : ℕ) (w₂ w₃ : List ℕ) (tk : TakenFrom n t x len be l y r w₁ w₂) (cp : Moved second y be t w₂ w₃) where
    -- the words of the product, as a polynomial
    P : ℕ → ℕ
    P = coef (piece w₂ y (len + l - 1))

    at : (k : ℕ) → k < t → get_or w₂ (y + k) 0 ≡ P k
    unfolding P
    at k h = ⊎_elim
        (λ b. sym (piece_at w₂ y (len + l - 1) k b))
        (λ b. tk.around.high (y + k) (omega arith) ∙ cl.mid k (omega arith) ∙ sym (piece_over w₂ y (len + l - 1) k b))
        (lt_or_le k (len + l - 1))

    P_small : (k : ℕ) → P k < n
    unfolding P
    P_small k = ⊎_elim
        (λ b. subst (λ (z : ℕ). z < n) (sym (piece_at w₂ y (len + l - 1) k b)) (tk.below.at k b))
        (λ b. subst (λ (z : ℕ). z < n) (sym (piece_over w₂ y (len + l - 1) k b)) asked.positive)
        (lt_or_le k (len + l - 1))

    P_zero : (k : ℕ) → r ≤ k → P k ≡ 0
    unfolding P
    P_zero k h = ⊎_elim
        (λ b. piece_at w₂ y (len + l - 1) k b ∙ tk.zero k h b)
        (λ b. piece_over w₂ y (len + l - 1) k b)
        (lt_or_le k (len + l - 1))

    -- and as they stand at be
    placed : (k : ℕ) → k < t → get_or w₃ (be + k) 0 ≡ P k
    placed k h = cp.mid k h ∙ at k h

    above : (k : ℕ) → t ≤ k → k < 2 * (t + 1) → get_or w₃ (be + k) 0 ≡ 0
    above k h b = cp.high (be + k) (omega arith) ∙ tk.around.low (be + k) (omega arith) ∙ mu₁.zero k (omega arith) b

    whole : (k : ℕ) → coef (piece w₃ be (2 * (t + 1))) k ≡ P k
    whole k = ⊎_elim
        (λ h. piece_at w₃ be (2 * (t + 1)) k (omega arith) ∙ placed k h)
        (λ h. ⊎_elim (λ b. piece_at w₃ be (2 * (t + 1)) k b ∙ above k h b ∙ sym (P_zero k (omega (arith, tk.within))))
        (λ b. piece_over w₃ be (2 * (t + 1)) k b ∙ sym (P_zero k (omega (arith, tk.within)))) (lt_or_le k (2 * (t + 1))))
        (lt_or_le k t)

    same_h : piece w₁ 0 (t + 1) ≡ piece w 0 (t + 1)
    same_h = piece_apart (apart_low 0 (t + 1) y (len + t) (omega arith)) cleared (omega arith)

    same_x : piece w₁ x len ≡ piece w x len
    same_x = piece_apart (apart_low x len y (len + t) asked.last) cleared (omega arith)

    same_be : piece w₁ be (2 * (t + 1)) ≡ piece w be (2 * (t + 1))
    same_be = piece_apart (apart_low be (2 * (t + 1)) y (len + t) (omega arith)) cleared (omega arith)

    beta_is : (k : ℕ) → coef (piece w be (2 * (t + 1))) k ≡ coef (piece w₁ be l) k
    beta_is k = ap (λ (f : List ℕ). coef f k) (sym same_be) ∙ multiplier_short mu₁ l (omega arith) (omega arith) k

    none : (k : ℕ) → coef (piece w₁ y (len + l - 1)) k ≡ coef [] k
    none k = ⊎_elim
        (λ b. piece_at w₁ y (len + l - 1) k b ∙ cl.mid k (omega arith))
        (λ b. piece_over w₁ y (len + l - 1) k b)
        (lt_or_le k (len + l - 1)) ∙ sym (coef_beyond [] k (omega arith))

    pub over_done : OverUnit n t x len be l y r w w₃
    unfolding P
    over_done = record {
      outside = record {
        same = cp.same ∙ tk.around.same ∙ cl.same;
        at = λ k p q. around_at (moved_around cp) k p ∙ around_at tk.around k (λ j h e. q j (omega arith) e) ∙ around_at cleared k q;
      };
      longer = ⊎_elim (λ h. omega (arith, tk.full h)) (λ h. omega arith) (lt_or_le r t);
      most = tk.within;
      multiplier = record {
        below = record {
          at = λ k h. ⊎_elim (λ b. subst (λ (z : ℕ). z < n) (sym (placed k b)) (P_small k))
              (λ b. subst (λ (z : ℕ). z < n) (sym (above k b h)) asked.positive) (lt_or_le k t);
        };
        zero = λ k h b. ⊎_elim (λ c. placed k c ∙ P_zero k h) (λ c. above k c b) (lt_or_le k t);
      };
      taken = record {
        z = tk.taken.z;
        at = λ k.
            ap₂ (λ (h : List ℕ) (F : ℕ → ℕ). (convolve (coef tk.taken.z) (coef h) k + convolve (coef (piece w x len)) F k + coef
            (piece w₃ be (2 * (t + 1))) k) % n) (sym same_h) (fun_ext beta_is)
            ∙ ap₂ (λ (f : List ℕ) (v : ℕ). (convolve (coef tk.taken.z) (coef (piece w₁ 0 (t + 1))) k + convolve (coef f)
            (coef (piece w₁ be l)) k + v) % n) (sym same_x) (whole k)
            ∙ tk.taken.at k ∙ ap (λ (v : ℕ). v % n) (none k);
      };
    }

pub ruleset overs = (rules, over_product, over_modulo, over_done)
