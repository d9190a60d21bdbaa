-- What the count of a read means.
--
--   input_of n         nothing, where the input has ended; otherwise n characters came
--   came_some          where one was counted, they came
--   came_count         as many came as were counted
use Rattle.std.specs.Prelude.{◌≡◌, refl, ℕ, zero, suc, Option, Some, None}
use Rattle.std.proofs.Common.{arith}

abbrev pub input_of : ℕ → Option ℕ
input_of zero = None
input_of (suc n) = Some (suc n)

pub came_some : (n : ℕ) → (n ≡ 0 → ⊥) → Some n ≡ input_of n
came_some zero h = absurd (h refl)
came_some (suc n) h = refl

pub came_count : {r : Option ℕ} {k : ℕ} (n : ℕ) → r ≡ Some k → r ≡ input_of n → k ≡ n
came_count zero e h = let z : ◌≡◌ {A = ℕ} 0 1 = cc in absurd (omega arith)
came_count (suc n) e h = cc
