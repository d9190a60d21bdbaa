-- The Chinese remainder: a residue modulo n₁ n₂ for each two residues.
use Rattle.std.specs.Prelude.{◌≡◌, ℕ, ◌+◌, ◌-◌, ◌*◌, ◌%◌, ◌<◌, ◌≤◌}
use Rattle.std.proofs.Common.{◌∙◌, mod-lt, le_of_lt, mul-pos}
use Rattle.std.proofs.Math.Nat.{mod-mod_of_dvd, dvd-mul_left}
use Rattle.definitions.specs.Residues.{Coprime}
use Rattle.law_numbers.specs.Chinese.{Joined, idempotent_exists, joined_of}

pub joined_exists : {n₁ n₂ : ℕ} → 1 ≤ n₁ → 1 ≤ n₂ → Coprime n₁ n₂ → (x y : ℕ) → (r : ℕ) × Joined n₁ n₂ x y r
joined_exists {n₁} {n₂} l₁ l₂ c x y =
    let n : ℕ = n₁ * n₂ in
    let z : ℕ = y % n in
    let e = idempotent_exists l₁ l₂ c in
    let j = joined_of x z l₁ l₂ (le_of_lt (mod-lt y (mul-pos l₁ l₂))) e.1 in (
      (z + e.0 * ((x + (n - z)) % n)) % n,
      record {
        below = j.below;
        first = j.first;
        second = j.second ∙ mod-mod_of_dvd n₂ y (dvd-mul_left n₂ n₁);
      },
    )
