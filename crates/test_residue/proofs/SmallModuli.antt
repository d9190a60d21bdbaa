-- Small coprime numbers meet what joining asks.
use mathlib.Core.Path.{◌≡◌, subst}
use Prim.Native.Nat.{ℕ, ◌*◌, ◌<◌, ◌≤◌}
use native.Mathlib.Nat.{mul-le-mul}
use native.Mathlib.Omega.{arith}
use Rattle.law_numbers.specs.Divisors.{IsGcd}
use Rattle.law_numbers.specs.Units.{coprime_of_gcd}
use Rattle.residue.specs.Moduli.{CoprimeModuli}

pub joining : {n₁ n₂ g : ℕ} → 1 ≤ n₁ → n₁ ≤ 16 → 1 ≤ n₂ → n₂ ≤ 16 → IsGcd n₁ n₂ g → g ≡ 1
    → CoprimeModuli 4294967296 n₁ n₂
joining {n₁} {n₂} {g} p a q b h e =
    let l : n₁ * n₂ ≤ 16 * 16 = mul-le-mul a b in
    record { some₁ = p; some₂ = q; word = omega arith; coprime = coprime_of_gcd (subst (IsGcd n₁ n₂) e h) }
