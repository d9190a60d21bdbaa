-- What the pairs of a batch ask for, over any width W.
--
--   BatchAsked    of all pairs, once no refusal applies
--   PairAsked     of the i-th pair
use Rattle.std.specs.Prelude.{List, ℕ, suc, ◌*◌, ◌<◌, ◌≤◌, length}
use Rattle.refusals.specs.Refusals.{Width}
use Rattle.batch_pairs.specs.Batches.{ServedPieces}

pub record BatchAsked (W : Width) (n : ℕ) (f : List ℕ) (d : ℕ) (g : List ℕ) (e count : ℕ) (out work : List ℕ) : Type 0 where
  pub two : 2 ≤ n
  pub bounded : n < W.bound
  pub first : ServedPieces d count (length f)
  pub second : ServedPieces e count (length g)
  pub inside : count ≤ length out
  pub working : W.working ≤ length work

-- the i-th piece ends before f does, or with it
pub record PairAsked (W : Width) (n : ℕ) (f : List ℕ) (d : ℕ) (g : List ℕ) (e i : ℕ) (work : List ℕ) : Type 0 where
  pub two : 2 ≤ n
  pub bounded : n < W.bound
  pub most_d : d ≤ 48
  pub most_e : e ≤ 48
  pub inside_f : suc i * suc d ≤ length f
  pub inside_g : suc i * suc e ≤ length g
  pub working : W.working ≤ length work
