-- The lines of an input, and the answers to them. A text is the list of its characters; a newline is 10.
--
--   finished t, unfinished t      the lines that end with a newline, and what comes after the last newline
--   lines t                       all lines of t
--   Answers ls a                  a is the answers to the lines ls, in order
use Rattle.std.specs.Prelude.{cond, List, [], ◌∷◌, ◌++◌, ℕ, eqb}
use Rattle.frame_pieces.specs.Newlines.{has_newline}
use Rattle.frames.specs.Frames.{AnswerOf}

-- c at the front of the first line
abbrev pub lengthen : ℕ → List (List ℕ) → List (List ℕ)
lengthen c [] = []
lengthen c (s ∷ ls) = (c ∷ s) ∷ ls

unfoldable pub finished : List ℕ → List (List ℕ)
finished [] = []
finished (c ∷ t) = cond (eqb c 10) ([] ∷ finished t) (lengthen c (finished t))

unfoldable pub unfinished : List ℕ → List ℕ
unfinished [] = []
unfinished (c ∷ t) = cond (has_newline (c ∷ t)) (unfinished t) (c ∷ t)

-- "A last line without a final newline counts as a line."
abbrev pub last_line : List ℕ → List (List ℕ)
last_line [] = []
last_line (c ∷ t) = (c ∷ t) ∷ []

-- "Empty input gives empty output": it has no line.
abbrev pub lines : List ℕ → List (List ℕ)
lines t = finished t ++ last_line (unfinished t)

pub data Answers : List (List ℕ) → List ℕ → Type 0 where
  none : Answers [] []
  then : {s a b : List ℕ} {ls : List (List ℕ)} → AnswerOf s a → Answers ls b → Answers (s ∷ ls) (a ++ b)
