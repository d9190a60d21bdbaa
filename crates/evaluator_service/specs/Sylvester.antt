-- Sylvester's matrix in the corner of eight rows of eight words.
--
--   RowWords f, ServedRows f g   f, or f and g, may fill rows of eight words
--   HoldsSylvester f g m         m holds Sylvester's matrix of f and g
--   HoldsSylvesterRow f g r x    x is row r of it
use Rattle.std.specs.Prelude.{◌≡◌, List, ℕ, ◌<◌, ◌≤◌, pos, length, get_or}
use Rattle.definitions.specs.Resultants.{sylvester}
use Rattle.evaluator_matrices.specs.Elimination.{cell}

-- S41: "serves d + e up to 8": neither polynomial has more than nine words
pub record RowWords (f : List ℕ) : Type 0 where
  pub some : 1 ≤ length f
  pub few : length f ≤ 9

pub record ServedRows (f g : List ℕ) : Type 0 where
  pub first : RowWords f
  pub second : RowWords g

pub record HoldsSylvester (f g : List ℕ) (m : List (List ℕ)) : Type 0 where
  pub at : (r c : ℕ) → r < 8 → c < 8 → pos (cell m r c) ≡ sylvester f g r c

pub record HoldsSylvesterRow (f g : List ℕ) (r : ℕ) (x : List ℕ) : Type 0 where
  pub at : (c : ℕ) → c < 8 → pos (get_or x c 0) ≡ sylvester f g r c
