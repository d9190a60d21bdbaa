-- The reduced resultant at the numbers of S92: D is not the gcd of the resultant and n.
use Rattle.std.specs.Prelude.{◌≡◌, List, [], ◌∷◌, ℕ, ◌<◌, ◌≤◌}
use Rattle.std.proofs.Common.{arith}
use Rattle.std.proofs.Math.Nat.{eq-one_of_dvd-one}
use Rattle.definitions.specs.Resultants.{Reduced}
use Rattle.definitions.specs.Checks.{long_multipliers}

-- S92: "D taken as gcd(resultant, n)": the resultant of these two is 0 modulo 4, and D is 1
not_the_gcd : (D : ℕ) → Reduced 4 (1 ∷ 2 ∷ []) (3 ∷ 2 ∷ []) D → D ≡ 1
not_the_gcd D r = eq-one_of_dvd-one (r.only 1 (omega arith) long_multipliers)
