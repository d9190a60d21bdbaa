-- What is lent for a line whose head is known: room for its words, and working words.
use Rattle.std.specs.Prelude.{◌≡◌, List, ℕ, length}
use Rattle.frame_lines.specs.Heads.{Fields}
use Rattle.frame_runs.specs.Working.{Working}

pub record Lent (s : List ℕ) (k n d e : ℕ) (words work : List ℕ) : Type 0 where
  pub head : Fields s k n d e
  pub room : length words ≡ 98
  pub working : Working work
