-- D alone in words of 64 bits.
--
--   DivisorAsked n f g w        n is below 2^63, f and g have 1 to 49 words, and w has the words of a working buffer
--   CoprimeAttempted n f g b    b says that D is 1; false says nothing
use Rattle.std.specs.Prelude.{Bool, true, false, List, ℕ, ◌<◌, ◌≤◌, length}
use Rattle.definitions.specs.Resultants.{Reduced}

pub record DivisorAsked (n : ℕ) (f g w : List ℕ) : Type 0 where
  pub two : 2 ≤ n
  pub bounded : n < 9223372036854775808
  pub least_f : 1 ≤ length f
  pub most_f : length f ≤ 49
  pub least_g : 1 ≤ length g
  pub most_g : length g ≤ 49
  pub working : 16384 ≤ length w

abbrev pub CoprimeAttempted : ℕ → List ℕ → List ℕ → Bool → Type 0
CoprimeAttempted n f g true = Reduced n f g 1
CoprimeAttempted n f g false = Unit
