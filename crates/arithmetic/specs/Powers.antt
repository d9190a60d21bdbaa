-- A round of a power by squaring. Assumes nothing: this is a definition.
--
--   TimesDigit n r y j t    t is r y modulo n where the last binary digit of j is 1, else r
use Rattle.std.specs.Prelude.{◌≡◌, ℕ, ◌*◌, ◌%◌}

pub record TimesDigit (n r y j t : ℕ) : Type 0 where
  pub one : j % 2 ≡ 1 → t ≡ (r * y) % n
  pub none : (j % 2 ≡ 1 → ⊥) → t ≡ r
