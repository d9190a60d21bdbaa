-- The answers of an attempt, taken apart by the arm that the code is in.
--
--   value_at, split_at    D with cofactors, or two coprime factors
--   runs_of               the rules
use mathlib.Core.Path.{◌≡◌, subst}
use mathlib.Core.List.{List}
use Prim.Native.Nat.{ℕ, ◌-◌}
use lib.ListN.{length}
use Rattle.std.specs.Prelude.{Result, Ok, Err}
use Rattle.definitions.specs.Polynomials.{L}
use Rattle.window_factor.specs.Factors.{SplitOf}
use Rattle.residue.specs.declared.Split.{Split}
use Rattle.reduced_cofactors.specs.Cofactors.{Certified}
use Rattle.reduced_attempt.specs.ReducedAttempts.{Attempted}
use Rattle.reduced.proofs.MixRounds.{by_factors}

-- ν is the n of the record
module _ (n ν : ℕ) (f g u v u' v' : List ℕ) (r : Result ℕ (Split ℕ)) (x : Attempted ν f g u v u' v' r) (is : ν ≡ n) where
  pub value_at : (D : ℕ) → r ≡ Ok D → Certified n (L n (length f - 1) (length g - 1)) f g u' v' D
  value_at D e = subst (λ (m : ℕ). Certified m (L m (length f - 1) (length g - 1)) f g u' v' D) is (subst (Attempted ν f g u v u' v') e x)

  pub split_at : (s : Split ℕ) → r ≡ Err s → SplitOf n s.p s.q
  split_at s e = subst (λ (m : ℕ). SplitOf m s.p s.q) is (subst (Attempted ν f g u v u' v') e x).0

pub ruleset runs_of = (by_factors, value_at, split_at)
