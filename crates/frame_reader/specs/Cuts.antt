-- An input that is cut at a line's end: its two parts are answered on their own, here or elsewhere, and the answers set one after
-- the other are those of the whole.
--
--   Ends_line t          t is empty or ends with a newline
--   lines_cut            the lines of such a text and what follows it are the lines of the two
--   answers_cut          so are the answers
--   written_cut          and what is written, however the whole and the parts come in pieces
--   written_parts        the same of any number of parts
use Rattle.std.specs.Prelude.{◌≡◌, refl, List, [], ◌∷◌, ◌++◌, ℕ}
use Rattle.std.proofs.Common.{sym, ap, ap₂, ◌∙◌, subst, append-nil}
use Rattle.frame_reader.specs.Lines.{finished, unfinished, last_line, lines, Answers, none}
use Rattle.frame_reader.specs.LineLaws.{unfinished_line, lines_append, answers_append, answers_unique}
use Rattle.frame_reader.specs.Pieces.{Written, joined}
use Rattle.frame_reader.specs.Whole.{whole}

-- Nothing comes after the last newline.
abbrev pub Ends_line : List ℕ → Type 0
Ends_line t = unfinished t ≡ []

-- a text whose last character is a newline
pub newline_ends : (s : List ℕ) → Ends_line (s ++ 10 ∷ [])
unfolding unfinished
newline_ends s = unfinished_line s []

pub lines_ended : (t : List ℕ) → Ends_line t → lines t ≡ finished t
lines_ended t e = ap (λ (y : List ℕ). finished t ++ last_line y) e ∙ append-nil (finished t)

pub lines_cut : (t r : List ℕ) → Ends_line t → lines (t ++ r) ≡ lines t ++ lines r
lines_cut t r e =
    lines_append t r ∙ ap₂ (λ (x : List (List ℕ)) (y : List ℕ). x ++ lines (y ++ r)) (sym (lines_ended t e)) e

-- If a text ends with a newline, the answers of it and of what follows are the answers of the two, one after the other.
pub answers_cut : (t r : List ℕ) {a b : List ℕ} → Ends_line t → Answers (lines t) a → Answers (lines r) b
    → Answers (lines (t ++ r)) (a ++ b)
answers_cut t r {a} {b} e p q = subst (λ (x : List (List ℕ)). Answers x (a ++ b)) (sym (lines_cut t r e)) (answers_append p q)

-- What is written for the whole input is what is written for its first part, then for the rest.
pub written_cut : {b b' c a a' r : List ℕ} (ps ps' qs : List (List ℕ)) → Ends_line (joined ps) → joined qs ≡ joined ps ++ joined ps'
    → Written 0 b ps a → Written 0 b' ps' a' → Written 0 c qs r → r ≡ a ++ a'
written_cut {r = r} ps ps' qs e k p p' q =
    answers_unique (subst (λ (t : List ℕ). Answers (lines t) r) k (whole qs q))
    (answers_cut (joined ps) (joined ps') e (whole ps p) (whole ps' p'))

-- ---- any number of parts

-- a is what runs of their own wrote for the parts ts, one after the other; each part but the last ends with a newline
pub data Worked : List (List ℕ) → List ℕ → Type 0 where
  no_part : Worked [] []
  last_part : {b a : List ℕ} (ps : List (List ℕ)) → Written 0 b ps a → Worked (joined ps ∷ []) a
  part : {b a a' : List ℕ} {ts : List (List ℕ)} (ps : List (List ℕ)) → Ends_line (joined ps) → Written 0 b ps a → Worked ts a'
      → Worked (joined ps ∷ ts) (a ++ a')

worked_answers : {ts : List (List ℕ)} {a : List ℕ} → Worked ts a → Answers (lines (joined ts)) a
unfolding finished unfinished
worked_answers no_part = none
worked_answers (last_part {a = a} ps p) = subst (λ (t : List ℕ). Answers (lines t) a) (sym (append-nil (joined ps))) (whole ps p)
worked_answers (part {ts = ts} ps e p more) = answers_cut (joined ps) (joined ts) e (whole ps p) (worked_answers more)

-- An input may be cut at any of its line ends, and the parts worked anywhere: what they wrote, in the parts' order, is what is
-- written for the whole.
pub written_parts : {c a r : List ℕ} (ts qs : List (List ℕ)) → joined qs ≡ joined ts → Worked ts a → Written 0 c qs r → r ≡ a
written_parts {r = r} ts qs k w q = answers_unique (subst (λ (t : List ℕ). Answers (lines t) r) k (whole qs q)) (worked_answers w)
