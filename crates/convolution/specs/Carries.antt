-- Sums of products that pass 64 bits.
--
--   wide h x       the number of the words h and x, x the lower. It is shut: omega stops at numbers as large as 2^64.
--   Carry x p r    r is how often x + p passes 2^64, 0 or 1
use Rattle.std.specs.Prelude.{◌≡◌, ℕ, ◌+◌, ◌*◌, ◌%◌, ◌^◌, ◌≤◌}

unfoldable pub wide : ℕ → ℕ → ℕ
wide h x = h * 2 ^ 64 + x

pub record Carry (x p r : ℕ) : Type 0 where
  pub is : wide r ((x + p) % 2 ^ 64) ≡ x + p
  pub most : r ≤ 1
