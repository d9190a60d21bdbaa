-- What an attempt at a resultant modulo n comes to, and what its answers are turned into.
--
--   ValueOrSplit n x r           r is an answer for x: the value x, or two coprime factors of n
--   IsAnswer n r, Partial n r    r is an answer for some value modulo n, or modulo a divisor of n
--   Follows n F r s              where r is an answer for x, s is one for F x
--   Lifted n r s                 where r is an answer for x modulo a divisor of n, s is one for x modulo n
use Rattle.std.specs.Prelude.{◌≡◌, Result, Ok, Err, ℕ, ◌<◌}
use Rattle.std.specs.Int.{◌∣◌}
use Rattle.window_factor.specs.Factors.{SplitOf}
use Rattle.residue.specs.declared.Split.{Split}

abbrev pub ValueOrSplit : ℕ → ℕ → Result ℕ (Split ℕ) → Type 0
ValueOrSplit n x (Ok v) = (v ≡ x) × (v < n)
ValueOrSplit n x (Err s) = SplitOf n s.p s.q

pub record Follows (n : ℕ) (F : ℕ → ℕ) (r s : Result ℕ (Split ℕ)) : Type 0 where
  pub at : (x : ℕ) → ValueOrSplit n x r → ValueOrSplit n (F x) s

-- r is an answer for some value, and the same modulo some divisor of n
pub record IsAnswer (n : ℕ) (r : Result ℕ (Split ℕ)) : Type 0 where
  pub x : ℕ
  pub is : ValueOrSplit n x r

pub record Partial (n : ℕ) (r : Result ℕ (Split ℕ)) : Type 0 where
  pub m : ℕ
  pub divides : m ∣ n
  pub answer : IsAnswer m r

pub record Lifted (n : ℕ) (r s : Result ℕ (Split ℕ)) : Type 0 where
  pub at : (m x : ℕ) → m ∣ n → ValueOrSplit m x r → ValueOrSplit n x s
