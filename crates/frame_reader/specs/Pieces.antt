-- An input that comes in pieces. Between two pieces the unfinished line is kept in a buffer, as far as it can be a frame.
--
--   PendingAnswered, PartAnswered    the answer to the pending line, and to the one that a part ends, whatever line is kept
--   Stepped s p h b w o o'    what a step over the piece p owes, s being the pending line before it
--   Written h b ps a          a is what is written, from a line pending as h in b, for the pieces ps and at the end of the input
use Rattle.std.specs.Prelude.{◌≡◌, false, List, [], ◌∷◌, ◌++◌, ℕ, take, drop}
use Rattle.frame_pieces.specs.Newlines.{has_newline, Pending}
use Rattle.frames.specs.Frames.{Wrote}
use Rattle.frame_reader.specs.Lines.{finished, unfinished, last_line, Answers}

-- Whatever line is kept as h in b, its answer is written from place at on.
pub record PendingAnswered (h : ℕ) (b : List ℕ) (at : ℕ) (o o' w w' : List ℕ) : Type 0 where
  pub pending : (s : List ℕ) → Pending s h b → Wrote s at o o' w w'

-- The same of the line that the part p ends.
pub record PartAnswered (h : ℕ) (b p : List ℕ) (at : ℕ) (o o' w w' : List ℕ) : Type 0 where
  pub pending : (s : List ℕ) → Pending s h b → has_newline p ≡ false → Wrote (s ++ p) at o o' w w'

-- The first w characters of o' are the answers to the lines that end in the piece; the rest is as it was. What comes after the
-- last newline is kept.
pub record Stepped (s p : List ℕ) (h : ℕ) (b : List ℕ) (w : ℕ) (o o' : List ℕ) : Type 0 where
  pub pending : Pending (unfinished (s ++ p)) h b
  pub answers : Answers (finished (s ++ p)) (take w o')
  pub rest : drop w o' ≡ drop w o

-- The end of the input: a last line that is not empty is answered.
pub record Ended (s : List ℕ) (w : ℕ) (o o' : List ℕ) : Type 0 where
  pub answers : Answers (last_line s) (take w o')
  pub rest : drop w o' ≡ drop w o

-- What a step over the piece p owes, whatever line is kept; and what the end of the input does.
abbrev pub Steps : ℕ → List ℕ → List ℕ → ℕ → List ℕ → ℕ → List ℕ → List ℕ → Type 0
Steps h b p h' b' w o o' = (s : List ℕ) → Pending s h b → Stepped s p h' b' w o o'

abbrev pub Ends : ℕ → List ℕ → ℕ → List ℕ → List ℕ → Type 0
Ends h b w o o' = (s : List ℕ) → Pending s h b → Ended s w o o'

-- What is written for the pieces ps and at the end, from a line pending as h in b on: each step takes up what the step before it left.
pub data Written : ℕ → List ℕ → List (List ℕ) → List ℕ → Type 0 where
  end : {h w : ℕ} {b o o' : List ℕ} → Ends h b w o o' → Written h b [] (take w o')
  piece : {h h' w : ℕ} {b b' o o' p a : List ℕ} {ps : List (List ℕ)} → Steps h b p h' b' w o o' → Written h' b' ps a
      → Written h b (p ∷ ps) (take w o' ++ a)

-- the pieces, one after the other
abbrev pub joined : List (List ℕ) → List ℕ
joined [] = []
joined (p ∷ ps) = p ++ joined ps
