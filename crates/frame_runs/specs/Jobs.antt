-- What the runs of a frame's job ask for.
--
--   EuclidAsked n f g w    Euclid without inverses: as many words as f and g have
--   JobAsked n f g w       a job: the working words
use Rattle.std.specs.Prelude.{List, ℕ, ◌+◌, ◌≤◌, length}
use Rattle.frame_runs.specs.Working.{Working}

pub record EuclidAsked (n : ℕ) (f g w : List ℕ) : Type 0 where
  pub modulus : 2 ≤ n
  pub least_f : 1 ≤ length f
  pub most_f : length f ≤ 49
  pub least_g : 1 ≤ length g
  pub most_g : length g ≤ 49
  pub room : length f + length g ≤ length w

-- "d from 0 to 48"
pub record JobAsked (n : ℕ) (f g w : List ℕ) : Type 0 where
  pub modulus : 2 ≤ n
  pub least_f : 1 ≤ length f
  pub most_f : length f ≤ 49
  pub least_g : 1 ≤ length g
  pub most_g : length g ≤ 49
  pub working : Working w
