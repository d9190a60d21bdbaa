-- How far the two numbers differ, at numbers (S62).
--
--   farthest, farthest_power     D and gcd(resultant, n) differ as far as the law allows: modulo 27, D = 3, the resultant 9 = 3^2, d = 2
--
-- proofs/NoUnit has what happens without a unit.
use Rattle.std.specs.Prelude.{refl, [], ◌∷◌, ◌≤◌, ◌^◌}
use Rattle.std.specs.Int.{◌∣◌}
use Rattle.std.proofs.Math.Nat.{dvd-zero, dvd_refl, le_of_dvd, dvd_of_mod-eq-zero}
use Rattle.std.proofs.Common.{arith}
use Rattle.definitions.specs.Expansions.{expansion}
use Rattle.definitions.specs.Resultants.{resultant, Reduced}
use Rattle.law_numbers.specs.Divisors.{IsGcd}
use Rattle.law_polynomials.specs.Powers.{Between}
use Rattle.law_polynomials.specs.StarredRows.{Entry, Holds, sound, table_holds}

-- 1,0,1 and 3 modulo 27
abbrev far : Entry
far = record { n = 27; f = 1 ∷ 0 ∷ 1 ∷ []; g = 3 ∷ []; value = 9; D = 3 }

farthest : Holds far
unfolding resultant expansion
farthest = sound far (record { u = []; v = 1 ∷ []; w = 1 ∷ 0 ∷ 1 ∷ []; a = 1 ∷ []; b = [] }) tt

-- D is 3, and gcd(resultant, n) is its second power itself
farthest_power : IsGcd (resultant 27 (1 ∷ 0 ∷ 1 ∷ []) (3 ∷ [])) 27 (3 ^ 2)
unfolding resultant expansion
farthest_power = record { left = dvd_refl 9; right = dvd_of_mod-eq-zero 9 refl; most = λ c p q. p }
