-- The jobs of frames and the answers to lines (document 01, "Job frames"). A line is the list of its characters, without its
-- newline. k is a job's kind, n its modulus, f and g its polynomials, r a status and v a value.
--
--   Value k n f g v                                               v is the value of a job
--   Outcome k n f g r v                                           r and v are the status and the value of a job
--   AnswerOf s a                                                  a is the answer line of the line s
--   Told, Wrote                                                   what is known of a line's answer, and once it is written
use Rattle.std.specs.Prelude.{◌≡◌, true, false, cond, List, ◌++◌, ℕ, zero, suc, ◌+◌, take, drop}
use Rattle.definitions.specs.Resultants.{resultant, Reduced}
use Rattle.refusals.specs.Refusals.{first_refusal, left}
use Rattle.frame_refusals.specs.FrameRefusals.{job_refusals}
use Rattle.frame_lines.specs.FrameLines.{kind_of, modulus_of, first_polynomial, second_polynomial, is_frame, answer_line}

-- "01 resultant, 02 reduced resultant"
abbrev pub Value : ℕ → ℕ → List ℕ → List ℕ → ℕ → Type 0
Value zero n f g v = ⊥
Value (suc zero) n f g v = v ≡ resultant n f g
Value (suc (suc k)) n f g v = Reduced n f g v

-- "Each returns its number and value 0".
pub record Outcome (k n : ℕ) (f g : List ℕ) (r v : ℕ) : Type 0 where
  pub status : r ≡ first_refusal (job_refusals n f g)
  pub value : r ≡ 0 → Value k n f g v
  pub refused : (r ≡ 0 → ⊥) → v ≡ 0

-- A job was served: w and w' are the working words before and after.
pub record Served (k n : ℕ) (f g : List ℕ) (r v : ℕ) (w w' : List ℕ) : Type 0 where
  pub outcome : Outcome k n f g r v
  pub work : w' ≡ left r w

-- "Frames are tested for 8 first."
pub data AnswerOf (s : List ℕ) : List ℕ → Type 0 where
  refused : is_frame s ≡ false → AnswerOf s (answer_line 255 8 0)
  answered : (r v : ℕ) → is_frame s ≡ true → Outcome (kind_of s) (modulus_of s) (first_polynomial s) (second_polynomial s) r v
      → AnswerOf s (answer_line (kind_of s) r v)

-- the status of the job of a frame s
abbrev pub refusal_of : List ℕ → ℕ
refusal_of s = first_refusal (job_refusals (modulus_of s) (first_polynomial s) (second_polynomial s))

-- the working words w after the line s: as a service leaves them, and as they were where none is called
abbrev pub left_after : List ℕ → List ℕ → List ℕ
left_after s w = cond (is_frame s) (left (refusal_of s) w) w

-- What is told of a line: the kind k, the status r and the value v of its answer line. w and w' are the working words before and
-- after.
pub record Told (s : List ℕ) (k r v : ℕ) (w w' : List ℕ) : Type 0 where
  pub is : AnswerOf s (answer_line k r v)
  pub work : w' ≡ left_after s w

-- A line was answered: its answer stands in the buffer o' from place at on, and the rest of it is as it was in o. w and w' are
-- the working words before and after.
pub record Wrote (s : List ℕ) (at : ℕ) (o o' w w' : List ℕ) : Type 0 where
  pub line : List ℕ
  pub is : AnswerOf s line
  pub put : o' ≡ take at o ++ (line ++ drop (at + 13) o)
  pub work : w' ≡ left_after s w
