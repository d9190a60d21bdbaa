-- From the parts of a line, its words and its job's outcome to what its answer says.
--
--   telling     the rules of what is told of a line
use mathlib.Core.Path.{◌≡◌, refl, sym, ap, ap₂, ◌∙◌, subst}
use mathlib.Core.Bool.{Bool, true, false, cond, not}
use mathlib.Core.List.{List, ◌++◌}
use Prim.Native.Nat.{ℕ, zero, suc, ◌+◌, ◌-◌}
use native.Mathlib.Omega.{arith}
use lib.ListN.{take, drop}
use borrow.Author.Tests.{not-true, not-false}
use Rattle.refusals.specs.Refusals.{left}
use Rattle.frame_lines.specs.FrameLines.{kind_of, modulus_of, first_degree, count_of, words_of, frame_words}
use Rattle.frame_lines.specs.FrameLines.{first_polynomial, second_polynomial, is_frame, answer_line}
use Rattle.frame_lines.specs.Heads.{Fields, WordsRead}
use Rattle.frame_runs.specs.Working.{Working}
use Rattle.frames.specs.Frames.{AnswerOf, refusal_of, Outcome, Served, refused, answered, Told, Wrote}
use Rattle.frames.specs.Lending.{Lent}

-- the first k words
pub first_handed : (k : ℕ) (w : List ℕ) → take (k - 0) w ≡ take k w
first_handed k w = let e : k - 0 ≡ k = omega arith in ap (λ (x : ℕ). take x w) e

-- ---- no frame

pub told_refused : {s w : List ℕ} → is_frame s ≡ false → Told s 255 8 0 w w
told_refused {s} {w} h = record { is = refused h; work = ap (λ (b : Bool). cond b (left (refusal_of s) w) w) (sym h) }

pub told_words : {s m₀ m w : List ℕ} {k n d e count : ℕ} {b : Bool} → Lent s k n d e m₀ w → WordsRead s count m b → not b ≡ true
    → Told s 255 8 0 w w
told_words {b = b} l p t = told_refused (l.head.frame ∙ sym p.digits ∙ not-true b t)

-- ---- a frame

outcome_same : {k k' n n' r v : ℕ} {f f' g g' : List ℕ} → k ≡ k' → n ≡ n' → f ≡ f' → g ≡ g' → Outcome k n f g r v → Outcome k' n' f' g' r v
outcome_same {r = r} {v = v} a b c d p =
    subst (λ (x : ℕ × (ℕ × (List ℕ × List ℕ))). Outcome x.0 x.1.0 x.1.1.0 x.1.1.1 r v) (λ i. (a i, (b i, (c i, d i)))) p

frame_told : {s w w' : List ℕ} {k n d e r v : ℕ} (x : List ℕ) → Fields s k n d e → is_frame s ≡ true
    → x ≡ words_of (d + 1 + (e + 1)) (drop 14 s) → Served k n (take (d + 1) x) (drop (d + 1) x) r v w w' → Told s k r v w w'
frame_told {s} {w} {k = k} {d = d} {e = e} {r = r} {v = v} x h ef i q =
    let ec : d + 1 + (e + 1) ≡ count_of s = ap₂ (λ (y z : ℕ). y + 1 + (z + 1)) h.first h.second in
    let ew : x ≡ frame_words s = i ∙ ap (λ (y : ℕ). words_of y (drop 14 s)) ec in
    let ed : d + 1 ≡ first_degree s + 1 = ap (λ (y : ℕ). y + 1) h.first in
    let eo : Outcome (kind_of s) (modulus_of s) (first_polynomial s) (second_polynomial s) r v =
    outcome_same h.kind h.modulus (ap₂ take ed ew) (ap₂ drop ed ew) q.outcome in
    record {
      is = subst (λ (y : ℕ). AnswerOf s (answer_line y r v)) (sym h.kind) (answered r v ef eo);
      work = q.work ∙ ap (λ (y : ℕ). left y w) eo.status ∙ ap (λ (c : Bool). cond c (left (refusal_of s) w) w) (sym ef);
    }

pub told_served : {s m₀ m w w' : List ℕ} {k n d e r v : ℕ} {b : Bool} → Lent s k n d e m₀ w
    → WordsRead s (d + 1 + (e + 1)) m b → not b ≡ false
    → Served k n (take (d + 1) (take (d + 1 + (e + 1) - 0) m)) (drop (d + 1) (take (d + 1 + (e + 1) - 0) m)) r v w w' → Told s k r v w w'
told_served {m = m} {d = d} {e = e} {b = b} l p t q =
    let tr = not-false b t in
    frame_told (take (d + 1 + (e + 1) - 0) m) l.head (l.head.frame ∙ sym p.digits ∙ tr)
    (first_handed (d + 1 + (e + 1)) m ∙ p.words tr) q

-- ---- the answer line

pub wrote_told : {s o o' w w' : List ℕ} {at k r v : ℕ} → Told s k r v w w'
    → o' ≡ take at o ++ (answer_line k r v ++ drop (at + 13) o) → Wrote s at o o' w w'
wrote_told {k = k} {r = r} {v = v} p e = record { line = answer_line k r v; is = p.is; put = e; work = p.work }

pub wrote_refused : {s o o' w : List ℕ} {at : ℕ} → is_frame s ≡ false
    → o' ≡ take at o ++ (answer_line 255 8 0 ++ drop (at + 13) o) → Wrote s at o o' w w
wrote_refused h p = wrote_told (told_refused h) p

-- ---- the words lent

-- working words are zeros, and so they are after a line
left_zeros : (r : ℕ) (w : List ℕ) → Working w → left r w ≡ w
left_zeros zero w h = sym h.zeros
left_zeros (suc r) w h = refl

after_zeros : (b : Bool) (r : ℕ) (w : List ℕ) → Working w → cond b (left r w) w ≡ w
after_zeros true r w h = left_zeros r w h
after_zeros false r w h = refl

pub still_working : {s o o' w w' : List ℕ} {at : ℕ} → Wrote s at o o' w w' → Working w → Working w'
still_working {s} {w = w} p h = subst Working (sym (p.work ∙ after_zeros (is_frame s) (refusal_of s) w h)) h

pub ruleset telling = (told_words, told_served)
