-- A half over the content, where the words stand for themselves: the cofactors leave as they are.
--
--   over_found    what it comes to
--   attempts      the rules
use mathlib.Core.Path.{◌≡◌, subst}
use mathlib.Core.List.{List}
use Prim.Native.Nat.{ℕ, ◌-◌, ◌*◌, ◌/◌}
use lib.ListN.{length}
use Rattle.definitions.specs.Polynomials.{L}
use Rattle.reduced_cofactors.specs.Cofactors.{Certified}
use Rattle.reduced_attempt.specs.declared.HalfAttempt.{HalfAttempt}
use Rattle.reduced_attempt.specs.declared.HalfAttempt.TheVariants.{Found}
use Rattle.reduced_attempt.specs.ReducedAttempts.{ScaledAsked, OverAttempted}
use Rattle.reduced_attempt.proofs.Halves.{plain_certified}
use Rattle.reduced_attempt.proofs.Cases.{highest, over_word, over_splits, over_none, half_attempts, kinds}
use Rattle.reduced_attempt.proofs.Rules.{attempt}

module _ (n c : ℕ) (a b x y w x₁ y₁ : List ℕ) (z : HalfAttempt ℕ) where
  abbrev over : HalfAttempt ℕ → Type 0
  over z = OverAttempted (n / c) (length a - 1) (length b - 1) w x y x₁ y₁ z

  pub over_found : (D : ℕ) → z ≡ Found D → ScaledAsked n c 1 a b x y w → over z
      → Certified n (L n (length a - 1) (length b - 1)) a b x₁ y₁ (c * D)
  over_found D q s o = plain_certified s (subst over q o)

pub ruleset cores = (over_word, over_found, over_splits, over_none)

pub ruleset attempts = (attempt, highest, cores, half_attempts, kinds)
