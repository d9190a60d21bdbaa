-- What the interpolation at the points 0 to b asks of the words w and leaves in them.
--
--   Valued n b w              the words from 0 to b are values, residues modulo n; the differences of the points are units
--   Interpolated n b w w'     w' has the polynomial of degree at most b with these values
--   Differenced n i k b w w'  one pass of Newton's differences: each word above k less the one before it, times i
use Rattle.std.specs.Prelude.{◌≡◌, List, ℕ, suc, ◌+◌, ◌-◌, ◌*◌, ◌%◌, ◌^◌, ◌<◌, ◌≤◌, length, get_or}
use Rattle.definitions.specs.Polynomials.{total}
use Rattle.law_numbers.specs.PrimeTable.{UnitDifferences}

pub record Valued (n b : ℕ) (w : List ℕ) : Type 0 where
  pub two : 2 ≤ n
  pub inside : b < length w
  pub apart : UnitDifferences n b
  pub below : (k : ℕ) → k ≤ b → get_or w k 0 < n

pub record Interpolated (n b : ℕ) (w w' : List ℕ) : Type 0 where
  pub same : length w' ≡ length w
  pub below : (k : ℕ) → k ≤ b → get_or w' k 0 < n
  pub at : (z : ℕ) → z ≤ b → total (suc b) (λ k. get_or w' k 0 * z ^ k) % n ≡ get_or w z 0
  pub high : (k : ℕ) → b < k → get_or w' k 0 ≡ get_or w k 0

pub record Differenced (n i k b : ℕ) (w w' : List ℕ) : Type 0 where
  pub same : length w' ≡ length w
  pub low : (j : ℕ) → j ≤ k → get_or w' j 0 ≡ get_or w j 0
  pub new : (j : ℕ) → k ≤ j → j < b → get_or w' (suc j) 0 ≡ (i * (get_or w (suc j) 0 + (n - get_or w j 0))) % n
  pub high : (j : ℕ) → b < j → get_or w' j 0 ≡ get_or w j 0
