-- How far the two numbers differ where no top word is a unit, at numbers (S62).
--
--   no_unit                      no top word is a unit: modulo 4, D is 1 and gcd(resultant, n) is 4, which divides no power of 1
--   no_unit_constants            d = e = 0 and no unit: modulo 6, D is 2 and does not divide the resultant, which is 1
use Rattle.std.specs.Prelude.{refl, [], ◌∷◌, ◌≤◌}
use Rattle.std.specs.Int.{◌∣◌}
use Rattle.std.proofs.Math.Nat.{dvd-zero, dvd_refl, le_of_dvd}
use Rattle.std.proofs.Common.{arith}
use Rattle.definitions.specs.Expansions.{expansion}
use Rattle.definitions.specs.Resultants.{resultant, Reduced}
use Rattle.law_numbers.specs.Divisors.{IsGcd}
use Rattle.law_polynomials.specs.Powers.{Between}
use Rattle.law_polynomials.specs.StarredRows.{table_holds}

-- 1,2 and 3,2 modulo 4
no_unit : Reduced 4 (1 ∷ 2 ∷ []) (3 ∷ 2 ∷ []) 1 × (Between 4 1 (resultant 4 (1 ∷ 2 ∷ []) (3 ∷ 2 ∷ [])) 1 → ⊥)
unfolding resultant expansion
no_unit = (table_holds.1.1.1.0.1, λ b. let l : 4 ≤ 1 = le_of_dvd (omega arith) (b.power 4 four) in omega arith)
  where
    four : IsGcd 0 4 4
    four = record { left = dvd-zero 4; right = dvd_refl 4; most = λ c p q. q }

-- 2 and 4 modulo 6
no_unit_constants : Reduced 6 (2 ∷ []) (4 ∷ []) 2 × (2 ∣ resultant 6 (2 ∷ []) (4 ∷ []) → ⊥)
unfolding resultant expansion
no_unit_constants = (table_holds.1.1.1.1.0.1, λ h. let l : 2 ≤ 1 = le_of_dvd (omega arith) h in omega arith)
