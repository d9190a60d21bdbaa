-- Writing texts one after the other into a buffer.
--
--   put_front, put_rest, put_after, put_next    what stands where, once a text is written
--   short_put, line_put                         the kind and the status; an answer line
use mathlib.Core.Path.{◌≡◌, sym, ap, ap₂, ◌∙◌}
use mathlib.Core.List.{List, [], ◌∷◌, ◌++◌, append_assoc}
use Prim.Native.Nat.{ℕ, suc, ◌+◌, ◌≤◌}
use native.Mathlib.Omega.{arith}
use lib.ListN.{length, take, drop, set, length-append}
use lib.Seq.{length-take-le, take_at, drop_at, drop-drop, set_split}
use Rattle.hexadecimal.specs.Hexadecimal.{digits_of}
use Rattle.hexadecimal.specs.DigitLaws.{digits_length}
use Rattle.frame_lines.specs.FrameLines.{answer_line}

-- k characters a were written from place at on, and m characters b after them
module _ (o w a : List ℕ) (at k : ℕ) (fits : at + k ≤ length o) (la : length a ≡ k) (is : w ≡ take at o ++ (a ++ drop (at + k) o)) where
  front_length : length (take at o ++ a) ≡ at + k
  front_length = length-append (take at o) a ∙ ap₂ ◌+◌ (length-take-le at o (omega arith)) la

  joined : w ≡ (take at o ++ a) ++ drop (at + k) o
  joined = is ∙ sym (append_assoc (take at o) a (drop (at + k) o))

  pub put_front : take (at + k) w ≡ take at o ++ a
  put_front = ap (take (at + k)) joined ∙ take_at (take at o ++ a) (drop (at + k) o) (at + k) front_length

  pub put_rest : drop (at + k) w ≡ drop (at + k) o
  put_rest = ap (drop (at + k)) joined ∙ drop_at (take at o ++ a) (drop (at + k) o) (at + k) front_length

  pub put_after : (m : ℕ) → drop (at + k + m) w ≡ drop (at + k + m) o
  put_after m = sym (drop-drop m (at + k) w) ∙ ap (drop m) put_rest ∙ drop-drop m (at + k) o

  pub put_next : (b : List ℕ) (m : ℕ) → take (at + k) w ++ (b ++ drop (at + k + m) w) ≡ take at o ++ ((a ++ b) ++ drop (at + (k + m)) o)
  put_next b m =
      let e : at + k + m ≡ at + (k + m) = omega arith in
      ap₂ (λ (x y : List ℕ). x ++ (b ++ y)) put_front (put_after m ∙ ap (λ (x : ℕ). drop x o) e)
      ∙ append_assoc (take at o) a (b ++ drop (at + (k + m)) o)
      ∙ ap (λ (x : List ℕ). take at o ++ x) (sym (append_assoc a b (drop (at + (k + m)) o)))

-- the kind and the status
pub short_put : (o w₁ w' : List ℕ) (at k r : ℕ) {k' r' : ℕ} → w₁ ≡ take at o ++ (digits_of 2 k ++ drop (at + 2) o)
    → w' ≡ take (at + 2) w₁ ++ (digits_of 2 r ++ drop (at + 2 + 2) w₁) → at + 4 ≤ length o → k ≡ k' → r ≡ r'
    → w' ≡ take at o ++ ((digits_of 2 k' ++ digits_of 2 r') ++ drop (at + 4) o)
short_put o w₁ w' at k r h₁ h fits ek er =
    rw (← ek, ← er) (h ∙ put_next o w₁ (digits_of 2 k) at 2 (omega arith) (digits_length 2 k) h₁ (digits_of 2 r) 2)

-- an answer line: these, the value and the newline
pub line_put : (o w₂ w₃ w' : List ℕ) (at k r v : ℕ) {v' : ℕ} → w₂ ≡ take at o ++ ((digits_of 2 k ++ digits_of 2 r) ++ drop (at + 4) o)
    → w₃ ≡ take (at + 4) w₂ ++ (digits_of 8 v ++ drop (at + 4 + 8) w₂)
    → w' ≡ set w₃ (at + 12) 10 → at + 13 ≤ length o → length w₂ ≡ length o → length w₃ ≡ length w₂
    → v ≡ v' → w' ≡ take at o ++ (answer_line k r v' ++ drop (at + 13) o)
unfolding answer_line
line_put o w₂ w₃ w' at k r v h₂ h₃ is fits s₂ s₃ ev =
    let a = digits_of 2 k in
    let b = digits_of 2 r in
    let c = digits_of 8 v in
    let lb : length (a ++ b) ≡ 4 = length-append a b ∙ ap₂ ◌+◌ (digits_length 2 k) (digits_length 2 r) in
    let lc : length ((a ++ b) ++ c) ≡ 12 = length-append (a ++ b) c ∙ ap₂ ◌+◌ lb (digits_length 8 v) in
    let p₃ : w₃ ≡ take at o ++ (((a ++ b) ++ c) ++ drop (at + 12) o) = h₃ ∙ put_next o w₂ (a ++ b) at 4 (omega arith) lb h₂ c 8 in
    let e : suc (at + 12) ≡ at + 12 + 1 = omega arith in
    rw (← ev) (is
    ∙ set_split w₃ (at + 12) 10 (omega arith)
    ∙ ap (λ (x : ℕ). take (at + 12) w₃ ++ 10 ∷ drop x w₃) e
    ∙ put_next o w₃ ((a ++ b) ++ c) at 12 (omega arith) lc p₃ (10 ∷ []) 1
    ∙ ap (λ (x : List ℕ). take at o ++ (x ++ drop (at + 13) o)) (append_assoc (a ++ b) c (10 ∷ []) ∙ append_assoc a b (c ++ 10 ∷ [])))
