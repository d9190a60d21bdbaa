-- The promise about a whole input: however it is cut into pieces, what is written is the answers to its lines, in order.
use Rattle.std.specs.Prelude.{◌≡◌, refl, false, List, [], ◌++◌, ℕ, take}
use Rattle.std.proofs.Common.{sym, ap, ap₂, ◌∙◌, subst, append_assoc, append-nil}
use Rattle.frame_pieces.specs.Newlines.{has_newline, Pending}
use Rattle.frame_reader.specs.Lines.{unfinished, last_line, lines, Answers}
use Rattle.frame_reader.specs.LineLaws.{finished_none, unfinished_all, lines_append, answers_append, answers_unique}
use Rattle.frame_reader.specs.Pieces.{Written, end, piece, joined}

-- a text without a newline has at most one line
pub lines_single : (s : List ℕ) → has_newline s ≡ false → lines s ≡ last_line s
lines_single s h = ap₂ (λ (x : List (List ℕ)) (y : List ℕ). x ++ last_line y) (finished_none s h) (unfinished_all s h)

-- before the first piece nothing is kept
pub pending_none : (b : List ℕ) → Pending [] 0 b
unfolding has_newline
pending_none b = record { single = refl; count = refl; kept = λ h. refl }

-- from a pending line s on
written_answers : {h : ℕ} {b a : List ℕ} {ps : List (List ℕ)} (s : List ℕ) → Pending s h b → Written h b ps a
    → Answers (lines (s ++ joined ps)) a
written_answers s k (end {w = w} {o' = o'} e) =
    subst (λ (x : List (List ℕ)). Answers x (take w o')) (sym (ap lines (append-nil s) ∙ lines_single s k.single)) (e s k).answers
written_answers s k (piece {w = w} {o' = o'} {p = p} {a = a} {ps = ps} e more) =
    let q = e s k in
    subst (λ (x : List (List ℕ)). Answers x (take w o' ++ a))
    (sym (ap lines (sym (append_assoc s p (joined ps))) ∙ lines_append (s ++ p) (joined ps)))
    (answers_append q.answers (written_answers (unfinished (s ++ p)) q.pending more))

-- "One frame a line", "A last line without a final newline counts as a line", "Empty input gives empty output": the whole input.
pub whole : {b a : List ℕ} (ps : List (List ℕ)) → Written 0 b ps a → Answers (lines (joined ps)) a
whole {b} ps r = written_answers [] (pending_none b) r

-- However an input is cut, the same is written.
pub cut_alike : {b c a d : List ℕ} (ps qs : List (List ℕ)) → joined ps ≡ joined qs → Written 0 b ps a → Written 0 c qs d → a ≡ d
cut_alike {a = a} ps qs e r s = answers_unique (subst (λ (t : List ℕ). Answers (lines t) a) e (whole ps r)) (whole qs s)
