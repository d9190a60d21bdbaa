-- Cofactors from those modulo two coprime factors of the modulus, by Bézout's equation.
--
--   combination_joined    s n₁ + t n₂ is 1 modulo n₁ n₂
use Rattle.std.specs.Prelude.{◌≡◌, List, ℕ, ◌≤◌, ◌%◌, ◌+◌, ◌*◌}
use Rattle.definitions.specs.Resultants.{Combination}
use Rattle.law_numbers.specs.Coprimality.{coprime_of_bezout}
use Rattle.law_multipliers.specs.Joining.{Mixed, combination_coprime}

-- where s n₁ + t n₂ is 1 modulo n₁ n₂
pub combination_joined : (n₁ n₂ s t : ℕ) → 1 ≤ n₁ → 1 ≤ n₂ → (s * n₁ + t * n₂) % (n₁ * n₂) ≡ 1 % (n₁ * n₂) → (a b D₁ D₂ : ℕ)
    → a % n₁ ≡ D₂ % n₁ → a % n₂ ≡ 0 → b % n₁ ≡ 0 → b % n₂ ≡ D₁ % n₂
    → (f g u u₁ u₂ v v₁ v₂ : List ℕ) → Mixed (n₁ * n₂) a b u₁ u₂ u → Mixed (n₁ * n₂) a b v₁ v₂ v
    → Combination n₁ f g u₁ v₁ D₁ → Combination n₂ f g u₂ v₂ D₂
    → Combination (n₁ * n₂) f g u v (D₁ * D₂)
combination_joined n₁ n₂ s t p₁ p₂ bezout = combination_coprime p₁ p₂ (coprime_of_bezout s t (record { same = bezout }))
