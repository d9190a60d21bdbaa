-- Answering the pending line.
--
--   long_refused, pending_answered, part_answered, then_answered    what is written for it
--   line_none, line_answered                                        what is kept after it
--   pending_answers                                                 the rules
use mathlib.Core.Path.{◌≡◌, refl, sym, ap, ◌∙◌, subst}
use mathlib.Core.List.{List, ◌++◌}
use Prim.Native.Nat.{ℕ, ◌+◌, ◌-◌, ◌<◌, ◌≤◌}
use native.Mathlib.Omega.{arith}
use lib.ListN.{take, drop}
use borrow.Author.Rules.{rules}
use Rattle.frame_lines.specs.FrameLines.{answer_line}
use Rattle.frame_lines.proofs.Heads.{too_long}
use Rattle.frames.specs.Frames.{Wrote}
use Rattle.frames.proofs.Answering.{wrote_refused, first_handed, still_working}
use Rattle.frame_pieces.specs.Newlines.{Pending, KeepsPending, LineAfter}
use Rattle.frame_reader.specs.Pieces.{PendingAnswered, PartAnswered}

pub long_refused : (s : List ℕ) {h : ℕ} {b : List ℕ} (at : ℕ) {o o' w : List ℕ} → Pending s h b → 798 < h
    → o' ≡ take at o ++ (answer_line 255 8 0 ++ drop (at + 13) o) → Wrote s at o o' w w
long_refused s at k l p = wrote_refused (too_long s (omega (arith, k.count))) p

pub pending_answered : (s : List ℕ) (h : ℕ) (b : List ℕ) {at : ℕ} {o o' w w' : List ℕ} → Pending s h b → h ≤ 798
    → Wrote (take (h - 0) b) at o o' w w' → Wrote s at o o' w w'
pending_answered s h b {at} {o} {o'} {w} {w'} k l p = subst (λ (x : List ℕ). Wrote x at o o' w w') (first_handed h b ∙ k.kept l) p

-- nothing is kept: the line is the part itself
pub part_answered : (s : List ℕ) {h : ℕ} {b : List ℕ} (p : List ℕ) {at : ℕ} {o o' w w' : List ℕ} → Pending s h b → h ≡ 0
    → Wrote p at o o' w w' → Wrote (s ++ p) at o o' w w'
part_answered s {h} {b} p {at} {o} {o'} {w} {w'} k e q =
    subst (λ (x : List ℕ). Wrote (x ++ p) at o o' w w') (ap (λ (x : ℕ). take x b) (sym e) ∙ k.kept (omega arith)) q

-- the part is kept after what is kept, and the line is answered
pub then_answered : {h r at : ℕ} {b b' p o o' w w' : List ℕ} → KeepsPending h b p r b' → PendingAnswered r b' at o o' w w'
    → PartAnswered h b p at o o' w w'
then_answered {p = p} q a = record { pending = λ s k n. a.pending (s ++ p) (q.pending s k n) }

pub line_none : (b : List ℕ) → LineAfter 0 b b
line_none b = record { most = omega arith; same = refl; beyond = refl }

pub line_answered : {r : ℕ} {b b' : List ℕ} → LineAfter r b b' → LineAfter 0 b b'
line_answered q = record { most = omega arith; same = q.same; beyond = q.beyond }

pub ruleset pending_answers =
    (rules, long_refused, pending_answered, part_answered, then_answered, still_working, line_none, line_answered)
