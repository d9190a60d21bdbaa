-- Results in the first words of a lent buffer, true of any words.
--
--   deg_is                                the sent degree, as code has it
--   Filled, filled_none, filled_step, filled_end     a buffer filled from its first word on
--   placed, placed_take, placed_drop      the first words were lent as a part, and came back
use Rattle.std.specs.Prelude.{◌≡◌, refl, List, ◌++◌, ℕ, ◌+◌, ◌-◌, ◌≤◌, ◌<◌, length, take, drop, set}
use Rattle.std.proofs.Common.{sym, ap, ap₂, ◌∙◌, sub-one, arith, length-set, ext_get_or, get_or-set_same, get_or-set_other, take_at, drop_at, below_more}
use borrow.Rule.Slice.PartMut.{put_mid}
use Rattle.definitions.specs.Polynomials.{coef, deg, tabulate}
use Rattle.law_polynomials.specs.Words.{coef_tabulate, length_tabulate}

pub deg_is : (f : List ℕ) → deg f ≡ length f - 1
deg_is f = sym (sub-one (length f))

-- the words of w before k are those of F
pub record Filled (F : ℕ → ℕ) (k : ℕ) (w₀ w : List ℕ) : Type 0 where
  pub same : length w ≡ length w₀
  pub at : (i : ℕ) → i < k → coef w i ≡ F i

pub filled_none : (F : ℕ → ℕ) (w : List ℕ) → Filled F 0 w w
filled_none F w = record { same = refl; at = λ i l. absurd (omega arith) }

pub filled_step : {F : ℕ → ℕ} {k v : ℕ} {w₀ w : List ℕ} → Filled F k w₀ w → k < length w₀ → v ≡ F k → Filled F (k + 1) w₀ (set w k v)
filled_step {F} {k} {v} {w₀} {w} s l e = record {
  same = length-set w k v ∙ s.same;
  at = below_more _ k (λ i h. get_or-set_other w k i v 0 (omega arith) ∙ s.at i h) (get_or-set_same w k v 0 (omega (arith, s.same)) ∙ e);
}

pub filled_end : {F : ℕ → ℕ} {k : ℕ} {w₀ w : List ℕ} → Filled F k w₀ w → k ≤ length w₀ → length w ≤ k → w ≡ tabulate (length w₀) F
filled_end {F} {k} {w₀} {w} s m l =
    ext_get_or 0 w (tabulate (length w₀) F) (s.same ∙ sym (length_tabulate (length w₀) F))
    (λ i h. s.at i (omega (arith, s.same)) ∙ sym (coef_tabulate (length w₀) F i (omega (arith, s.same))))

-- the first words of w are lent as a part, and ys came back
pub placed : (k : ℕ) (w ys x : List ℕ) → ys ≡ x → length x ≡ k → put_mid 0 k w ys ≡ x ++ drop (length x) w
placed k w ys x e l = ap₂ (λ (y : List ℕ) (m : ℕ). y ++ drop m w) e (sym l)

pub placed_take : (k m : ℕ) (w ys : List ℕ) → length ys ≡ m → take m (put_mid 0 k w ys) ≡ ys
placed_take k m w ys l = take_at ys (drop k w) m l

pub placed_drop : (k m : ℕ) (w ys : List ℕ) → length ys ≡ m → k ≡ m → drop m (put_mid 0 k w ys) ≡ drop m w
placed_drop k m w ys l e = drop_at ys (drop k w) m l ∙ ap (λ (x : ℕ). drop x w) e
