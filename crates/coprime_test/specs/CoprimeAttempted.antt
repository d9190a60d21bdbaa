-- What the test asks and what it shows.
--
--   TestLengthsAsked f g w      f and g have words, and w has room for both
--   CoprimeAttempted n f g r    where r is true, D of f and g modulo n is 1
use Rattle.std.specs.Prelude.{◌≡◌, Bool, true, false, List, ℕ, ◌+◌, ◌≤◌, length, eqb}
use Rattle.law_numbers.specs.Divisors.{IsGcd}
use Rattle.definitions.specs.Resultants.{Reduced}

pub record TestLengthsAsked (f g w : List ℕ) : Type 0 where
  pub some_f : 1 ≤ length f
  pub some_g : 1 ≤ length g
  pub fits : length f + length g ≤ length w

-- the constants that are reached are then all of them: D is 1
abbrev pub CoprimeAttempted : ℕ → List ℕ → List ℕ → Bool → Type 0
CoprimeAttempted n f g true = Reduced n f g 1
CoprimeAttempted n f g false = Unit

-- r says whether the greatest common divisor x of n and c is 1
pub record UnitTested (n c : ℕ) (r : Bool) : Type 0 where
  pub x : ℕ
  pub gcd : IsGcd n c x
  pub is : r ≡ eqb x 1
