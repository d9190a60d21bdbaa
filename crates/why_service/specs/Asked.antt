-- What an answer asks, and what the search for a ground asks, where d is the reduced resultant of f and g.
--
--   WhyAsked       no refusal applies
--   GroundAsked    modulo d only zero is reached
use Rattle.std.specs.Prelude.{◌≡◌, List, ℕ, ◌≤◌, length}
use Rattle.common_factor.specs.Common.{OnlyZero}

pub record WhyAsked (n : ℕ) (f g w work : List ℕ) : Type 0 where
  pub modulus : 2 ≤ n
  pub some_f : 1 ≤ length f
  pub few_f : length f ≤ 49
  pub some_g : 1 ≤ length g
  pub few_g : length g ≤ 49
  pub words : 49 ≤ length w
  pub room : 8192 ≤ length work

-- f and g reach only zero modulo d; there is room for 49 words, and for both polynomials
pub record GroundAsked (d : ℕ) (f g w work : List ℕ) : Type 0 where
  pub least : 1 ≤ d
  pub words : length w ≡ 49
  pub few_f : length f ≤ 49
  pub few_g : length g ≤ 49
  pub room : 8192 ≤ length work
  pub only : OnlyZero d f g
