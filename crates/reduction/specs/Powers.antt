-- Powers of two as moduli. Assumes nothing: these are definitions.
--
--   PowerIn B n     n is a power of two that divides B
--   PowerOfTwo n    n is a power of two that divides 2^32
--   NoPower n       n is no power of two
--   PowerTest n r   r says whether n is one
use Rattle.std.specs.Prelude.{◌≡◌, ℕ, ◌^◌, ◌≤◌, Bool, true, false, ◌≢◌}
use Rattle.std.specs.Int.{◌∣◌}

pub record PowerIn (B n : ℕ) : Type 0 where
  pub pos : 1 ≤ n
  pub exponent : ℕ
  pub is : n ≡ 2 ^ exponent
  pub divides : n ∣ B

abbrev pub PowerOfTwo : ℕ → Type 0
PowerOfTwo n = PowerIn 4294967296 n

pub record NoPower (n : ℕ) : Type 0 where
  pub none : (k : ℕ) → n ≢ 2 ^ k

abbrev pub PowerTest : ℕ → Bool → Type 0
PowerTest n true = PowerOfTwo n
PowerTest n false = NoPower n
