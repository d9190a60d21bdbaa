-- The rules of the 32-bit twin, where the words are loaded as they are.
--
--   placed_loaded, answer_loaded    the general attempt at the sent polynomials
--   placing                         the rules
use mathlib.Core.Path.{◌≡◌}
use mathlib.Core.List.{List}
use Prim.Native.Nat.{ℕ, ◌+◌, ◌-◌, ◌≤◌}
use lib.ListN.{length}
use Rattle.std.specs.Prelude.{Result}
use Rattle.definitions.specs.Resultants.{resultant}
use Rattle.windows.specs.Window.{piece, Loaded}
use Rattle.residue.specs.declared.Split.{Split}
use Rattle.resultant_steps.specs.AttemptAnswers.{ValueOrSplit}
use Rattle.resultant_attempt.specs.AttemptStages.{Placed}
use Rattle.resultant.specs.Sizes.{RunLengthsAsked}
use Rattle.resultant.proofs.Loading as load

-- the sent polynomials, loaded: what the general attempt asks, and its answer
module _ {n : ℕ} {f g w w₁ w₂ : List ℕ} (lf : Loaded n 0 f w w₁) (lg : Loaded n (length f) g w₁ w₂) (two : 2 ≤ n)
    (s : RunLengthsAsked f g w)
    (near : length f ≤ length g) where
  pub placed_loaded : {n' a d b e p : ℕ} {w' : List ℕ} → n' ≡ n → a ≡ 0 → d ≡ length f - 1 → b ≡ length f → e ≡ length g - 1
      → p ≡ length f + length g → w' ≡ w₂ → Placed n' a d b e p w'
  placed_loaded e₁ e₂ e₃ e₄ e₅ e₆ e₇ = rw (e₁, e₂, e₃, e₄, e₅, e₆, e₇) (load.placed_asked n f g w w₁ w₂ two s near lf lg)

  pub answer_loaded : (r : Result ℕ (Split ℕ)) → ValueOrSplit n
      (resultant n (piece w₂ 0 (length f - 1 + 1)) (piece w₂ (length f) (length g - 1 + 1))) r
      → ValueOrSplit n (resultant n f g) r
  answer_loaded r = load.loaded_answer n f g w w₁ w₂ two s near lf lg r

pub ruleset placing = (placed_loaded, answer_loaded)
