-- A step over a piece, line by line.
--
--   Going s p i h w b o₀ o                      of the piece p the first i characters are worked, s being the pending line before it
--   Underway pending p b₀ o₀ i h w b o m        the same whatever line is kept, with the lengths that a round relies on
--   ended_none, ended_line                      the end of the input
--   steps, endings                              the rules of `step` and of `finish`
use mathlib.Core.Path.{◌≡◌, refl, sym, ap, ap₂, ◌∙◌, subst}
use mathlib.Core.Bool.{false}
use mathlib.Core.List.{List, [], ◌∷◌, ◌++◌, append_assoc, append-nil}
use Prim.Native.Nat.{ℕ, min, ◌+◌, ◌-◌, ◌*◌, ◌<◌, ◌≤◌}
use native.Mathlib.Omega.{arith}
use native.Mathlib.Nat.{pos_of_ne-zero}
use native.Mathlib.Numerals.{add-one}
use lib.ListN.{length, get_or, take, drop, length-drop, take-append-drop, drop_of_length-le}
use lib.Seq.{take_all, drop-cons, drop-drop}
use borrow.Author.Rules.{rules}
use borrow.Rule.Slice.PartMut.{post_of}
use Rattle.frame_lines.specs.FrameLines.{line_length}
use Rattle.frame_lines.proofs.Putting.{put_front, put_rest}
use Rattle.frame_runs.specs.Working.{Working}
use Rattle.frames.specs.Frames.{AnswerOf, refused, answered, Wrote}
use Rattle.frame_pieces.specs.Newlines.{has_newline, none_in_either, NewlineAt, Pending, KeepsPending, LineAfter}
use Rattle.frame_pieces.proofs.PendingLines.{pending_counted, line_unchanged, line_then}
use Rattle.frame_reader.specs.Lines.{finished, unfinished, last_line, Answers, none}
use Rattle.frame_reader.specs.LineLaws.{finished_none, unfinished_all, finished_line, unfinished_line, answers_append}
use Rattle.frame_reader.specs.LineLaws.{answers_one}
use Rattle.frame_reader.specs.Pieces.{PendingAnswered, PartAnswered, Stepped, Ended, Steps, Ends}
use Rattle.frame_reader.specs.Whole.{pending_none}

-- ---- what was written

answer_length : {s a : List ℕ} → AnswerOf s a → length a ≡ 13
answer_length (refused h) = line_length 255 8 0
answer_length {s} (answered r v h q) = line_length _ r v

-- one more line
wrote_more : {ls : List (List ℕ)} {s : List ℕ} {at : ℕ} {o o' w w' : List ℕ} → at + 13 ≤ length o → Answers ls (take at o)
    → Wrote s at o o' w w' → Answers (ls ++ s ∷ []) (take (at + 13) o')
wrote_more {ls} {s} {at} {o} {o'} l q r =
    subst (λ (x : List ℕ). Answers (ls ++ s ∷ []) x) (sym (put_front o o' r.line at 13 l (answer_length r.is) r.put))
    (answers_append q (answers_one r.is))

wrote_rest : {s : List ℕ} {at : ℕ} {o o' w w' : List ℕ} → at + 13 ≤ length o → Wrote s at o o' w w' → drop (at + 13) o' ≡ drop (at + 13) o
wrote_rest {s} {at} {o} {o'} l r = put_rest o o' r.line at 13 l (answer_length r.is) r.put

-- ---- the piece

-- what is left of the piece: up to the newline, and after it
cut_at : (p : List ℕ) (i j : ℕ) → i ≤ j → j < length p → get_or p j 0 ≡ 10 → drop i p ≡ take (j - i) (drop i p) ++ 10 ∷ drop (j + 1) p
cut_at p i j l h e =
    let e₁ : i + (j - i) ≡ j = omega arith in
    sym (take-append-drop (j - i) (drop i p))
    ∙ ap (λ (x : List ℕ). take (j - i) (drop i p) ++ x)
    (drop-drop (j - i) i p
    ∙ ap (λ (x : ℕ). drop x p) e₁
    ∙ drop-cons p j 0 h
    ∙ ap₂ (λ (x : ℕ) (y : List ℕ). x ∷ y) e (ap (λ (x : ℕ). drop x p) (sym (add-one j))))

-- all working words are lent
pub working_lent : (m : List ℕ) → length m ≡ 8192 → Working m → Working (take 8192 m)
working_lent m e h = subst Working (sym (take_all 8192 m (omega arith))) h

pub record Going (s p : List ℕ) (i h w : ℕ) (b o₀ o : List ℕ) : Type 0 where
  pub done : List (List ℕ)
  pub rest : List ℕ
  pub ended : finished (s ++ p) ≡ done ++ finished (rest ++ drop i p)
  pub left : unfinished (s ++ p) ≡ unfinished (rest ++ drop i p)
  pub pending : Pending rest h b
  pub answers : Answers done (take w o)
  pub after : drop w o ≡ drop w o₀

going_none : (s p : List ℕ) {h : ℕ} {b : List ℕ} (o : List ℕ) → Pending s h b → Going s p 0 h 0 b o o
going_none s p o k = record { done = []; rest = s; ended = refl; left = refl; pending = k; answers = none; after = refl }

module _ {s p : List ℕ} {i h w : ℕ} {b o₀ o : List ℕ} (g : Going s p i h w b o₀ o) where
  going_step : {j : ℕ} (b' : List ℕ) {o' v v' : List ℕ} → NewlineAt p i j → j < length p → w + 13 ≤ length o
      → Wrote (g.rest ++ take (j - i) (drop i p)) w o o' v v' → Going s p (j + 1) 0 (w + 13) b' o₀ o'
  going_step {j} b' {o'} n l m r =
      let part = take (j - i) (drop i p) in
      let line = g.rest ++ part in
      let more = drop (j + 1) p in
      let cut = cut_at p i j n.least l (n.at l) in
      let c : g.rest ++ drop i p ≡ line ++ 10 ∷ more =
      ap (λ (x : List ℕ). g.rest ++ x) cut ∙ sym (append_assoc g.rest part (10 ∷ more)) in
      let single : has_newline line ≡ false = none_in_either g.rest part g.pending.single n.before in
      record {
        done = g.done ++ line ∷ [];
        rest = [];
        ended = g.ended
            ∙ ap (λ (x : List ℕ). g.done ++ finished x) c
            ∙ ap (λ (x : List (List ℕ)). g.done ++ x) (finished_line line more single)
            ∙ sym (append_assoc g.done (line ∷ []) (finished more));
        left = g.left ∙ ap unfinished c ∙ unfinished_line line more;
        pending = pending_none b';
        answers = wrote_more m g.answers r;
        after = wrote_rest m r ∙ sym (drop-drop 13 w o) ∙ ap (drop 13) g.after ∙ drop-drop 13 w o₀;
      }

  -- what is left of the piece has no newline
  going_last : {h' : ℕ} {b' : List ℕ} → Pending (g.rest ++ drop i p) h' b' → Stepped s p h' b' w o₀ o
  going_last {h'} {b'} k =
      let more = g.rest ++ drop i p in
      let all : finished (s ++ p) ≡ g.done =
      g.ended ∙ ap (λ (x : List (List ℕ)). g.done ++ x) (finished_none more k.single) ∙ append-nil g.done in
      record {
        pending = subst (λ (x : List ℕ). Pending x h' b') (sym (g.left ∙ unfinished_all more k.single)) k;
        answers = subst (λ (x : List (List ℕ)). Answers x (take w o)) (sym all) g.answers;
        rest = g.after;
      }

  going_keep : {j h' : ℕ} {b' : List ℕ} → length p ≤ j → Pending (g.rest ++ take (j - i) (drop i p)) h' b' → Stepped s p h' b' w o₀ o
  going_keep {j} {h'} {b'} l k =
      going_last (subst (λ (x : List ℕ). Pending (g.rest ++ x) h' b') (take_all (j - i) (drop i p) (omega (arith, length-drop i p))) k)

  going_end : length p ≤ i → Stepped s p h b w o₀ o
  going_end l =
      going_last (subst (λ (x : List ℕ). Pending x h b)
      (sym (ap (λ (x : List ℕ). g.rest ++ x) (drop_of_length-le p l) ∙ append-nil g.rest)) g.pending)

pub record Underway (pending : ℕ) (p b₀ o₀ : List ℕ) (i h w : ℕ) (b o m : List ℕ) : Type 0 where
  pub place : i ≤ length p
  pub room : w ≤ 13 * i
  pub line : length b ≡ length b₀
  pub out : length o ≡ length o₀
  pub work : length m ≡ 8192
  pub zeros : Working m
  pub kept : LineAfter h b₀ b
  pub going : (s : List ℕ) → Pending s (min pending 799) b₀ → Going s p i h w b o₀ o

pub underway_none : (pending : ℕ) (p b o m : List ℕ) (x : ℕ) → x ≡ min pending 799 → 8192 ≡ length m → Working m
    → Underway pending p b o 0 x 0 b o m
underway_none pending p b o m x e l z = record {
  place = omega arith;
  room = omega arith;
  line = refl;
  out = refl;
  work = sym l;
  zeros = z;
  kept = line_unchanged x b (omega arith);
  going = λ s k. going_none s p o (pending_counted e k);
}

module _ {pending i h w : ℕ} {p b₀ o₀ b o m : List ℕ} (u : Underway pending p b₀ o₀ i h w b o m) where
  pub underway_keep : {j r : ℕ} {b' : List ℕ} → NewlineAt p i j → j ≡ length p
      → KeepsPending h b (take (j - i) (drop i p)) r b'
      → Steps (min pending 799) b₀ p r b' w o₀ o
  underway_keep n e keep s k = let g = u.going s k in going_keep g (omega arith) (keep.pending g.rest g.pending n.before)

  pub underway_end : length p ≤ i → Steps (min pending 799) b₀ p h b w o₀ o
  underway_end l s k = going_end (u.going s k) l

  pub underway_line : {r : ℕ} {b' : List ℕ} → LineAfter r b b' → LineAfter r b₀ b'
  underway_line q = line_then u.kept q

  pub underway_written : 13 * length p ≤ length o₀ → w ≤ length o₀
  underway_written l = omega (arith, u.place, u.room)

  pub underway_room : {j : ℕ} → NewlineAt p i j → (j ≡ length p → ⊥) → 13 * length p ≤ length o₀ → w + 13 ≤ length o
  underway_room n e l = omega (arith, u.room, u.out, n.least, n.most)

  pub underway_lent : Working (take 8192 m)
  underway_lent = working_lent m u.work u.zeros

  pub underway_next : {j i' h' w' : ℕ} {b' o' v v' m' : List ℕ} → NewlineAt p i j → (j ≡ length p → ⊥) → 13 * length p ≤ length o₀
      → PartAnswered h b (take (j - i) (drop i p)) w o o' v v'
      → LineAfter 0 b b' → Working v' → length o' ≡ length o → length v' ≡ length (take 8192 m) → m' ≡ v' ++ post_of 0 8192 m
      → i' ≡ j + 1 → h' ≡ 0 → w' ≡ w + 13 → Underway pending p b₀ o₀ i' h' w' b' o' m'
  underway_next {j} {b' = b'} {o' = o'} {v' = v'} n e l wrote q z lo lv em ei eh ew =
      let below : j < length p = omega (arith, n.most) in
      let room = underway_room n e l in
      let whole : length v' ≡ 8192 = lv ∙ ap length (take_all 8192 m (omega (arith, u.work))) ∙ u.work in
      let back : v' ++ post_of 0 8192 m ≡ v' =
      ap (λ (y : List ℕ). v' ++ y) (drop_of_length-le m {i = 8192} (omega (arith, u.work))) ∙ append-nil v' in
      rw (em, ei, eh, ew, back) (record {
        place = omega arith;
        room = omega (arith, u.room, n.least);
        line = q.same ∙ u.line;
        out = lo ∙ u.out;
        work = whole;
        zeros = z;
        kept = line_then u.kept q;
        going = λ s k.
            let g = u.going s k in
            going_step g b' n below room (wrote.pending g.rest g.pending n.before);
      })

-- ---- the end of the input

last_some : (s : List ℕ) → 0 < length s → last_line s ≡ s ∷ []
last_some [] h = absurd (omega arith)
last_some (c ∷ s) h = refl

pub ended_none : {h x : ℕ} {b : List ℕ} (o : List ℕ) → x ≡ h → x ≡ 0 → Ends h b 0 o o
ended_none {h} {x} {b} o eh e s k =
    let z : [] ≡ s = ap (λ (x : ℕ). take x b) (sym e ∙ eh) ∙ k.kept (omega arith) in
    record { answers = subst (λ (x : List ℕ). Answers (last_line x) []) z none; rest = refl }

pub ended_line : {h x : ℕ} {b o o' v v' : List ℕ} → PendingAnswered x b 0 o o' v v' → x ≡ h
    → (x ≡ 0 → ⊥) → 13 ≤ length o → Ends h b 13 o o'
ended_line {h} {x} {b} {o} {o'} wrote eh n l s k =
    let r = wrote.pending s (pending_counted eh k) in
    let z : 0 < length s = pos_of_ne-zero (λ e. n (omega (arith, k.count))) in
    record {
      answers = subst (λ (x : List (List ℕ)). Answers x (take 13 o')) (sym (last_some s z)) (wrote_more {ls = []} l none r);
      rest = wrote_rest l r;
    }

pub ruleset steps = (
  rules,
  underway_none,
  underway_keep,
  underway_end,
  underway_line,
  underway_written,
  underway_room,
  underway_lent,
  underway_next,
)

pub ruleset endings = (rules, working_lent, ended_none, ended_line)
