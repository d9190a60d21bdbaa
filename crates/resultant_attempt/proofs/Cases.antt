-- The answers of the two enums of this width, taken apart by the arm that the code is in.
--
--   degree_at             of the highest coefficient that is not nilpotent
--   value_at, split_at    of an attempt
--   attempts, products    the rules
use mathlib.Core.Path.{◌≡◌, subst}
use mathlib.Core.List.{List}
use Prim.Native.Nat.{ℕ, ◌<◌}
use Rattle.std.specs.Prelude.{Result, Ok, Err}
use Rattle.residue.specs.declared.Split.{Split}
use Rattle.window_factor.specs.declared.Highest.{Highest}
use Rattle.window_factor.specs.declared.Highest.TheVariants.{UnitAt as UnitAt'}
use Rattle.window_factor.specs.Factors.{HighestOf}
use Rattle.window_factor.proofs.Cases.{unit_at, highest}
use Rattle.resultant_steps.specs.AttemptAnswers.{ValueOrSplit}
use Rattle.resultant_attempt.proofs.Rules.{attempt, factors_answer, lead_below_degree}
use Rattle.resultant_steps.proofs.Contents.{first_of}
use Rattle.resultant_attempt.specs.AttemptStages.{Stacked}

pub degree_at : {n d e t i : ℕ} {w : List ℕ} (h : Highest ℕ) → Stacked n d e w → HighestOf n (first_of d e w) h → h ≡ UnitAt' t i
    → (t ≡ d → ⊥) → t < d
degree_at {n} {d} {e} {t} {i} h st p q ne = lead_below_degree st (unit_at n _ h p t i q) ne

module _ (n x : ℕ) (r : Result ℕ (Split ℕ)) (p : ValueOrSplit n x r) where
  pub value_at : (y : ℕ) → r ≡ Ok y → ValueOrSplit n x (Ok y)
  value_at y e = subst (ValueOrSplit n x) e p

  pub split_at : (z : ℕ) (s : Split ℕ) → r ≡ Err s → ValueOrSplit n z (Err s)
  split_at z s e = subst (ValueOrSplit n x) e p

pub ruleset attempts = (attempt, highest, degree_at, value_at, split_at)

pub ruleset products = (factors_answer)
