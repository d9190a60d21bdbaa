-- Laws of lines: a text that has a newline is its first line, the newline and the rest; and how texts that follow one another
-- share out their lines.
use Rattle.std.specs.Prelude.{◌≡◌, refl, Bool, true, false, cond, ◌||◌, List, [], ◌∷◌, ◌++◌, ℕ, eqb}
use Rattle.std.proofs.Common.{sym, ap, ap₂, ◌∙◌, subst, append_assoc, append-nil, eqb-true}
use Rattle.std.proofs.Math.Bool.{or-true}
use Rattle.frame_pieces.specs.Newlines.{has_newline, or_neither, has_newline_append}
use Rattle.frame_reader.specs.Lines.{lengthen, finished, unfinished, last_line, lines, Answers, none, then}
use Rattle.frames.specs.Frames.{AnswerOf}
use Rattle.frames.specs.FrameLaws.{answer_unique}

-- ---- a text without a newline

pub finished_none : (s : List ℕ) → has_newline s ≡ false → finished s ≡ []
unfolding finished has_newline
finished_none [] h = refl
finished_none (c ∷ s) h =
    let k = or_neither (eqb c 10) (has_newline s) h in
    ap₂ (λ (b : Bool) (x : List (List ℕ)). cond b ([] ∷ finished s) (lengthen c x)) k.0 (finished_none s k.1)

pub unfinished_all : (s : List ℕ) → has_newline s ≡ false → unfinished s ≡ s
unfolding unfinished
unfinished_all [] h = refl
unfinished_all (c ∷ s) h = ap (λ (b : Bool). cond b (unfinished s) (c ∷ s)) h

-- ---- a line, its newline, and the rest

pub finished_line : (s t : List ℕ) → has_newline s ≡ false → finished (s ++ 10 ∷ t) ≡ s ∷ finished t
unfolding finished has_newline
finished_line [] t h = refl
finished_line (c ∷ s) t h =
    let k = or_neither (eqb c 10) (has_newline s) h in
    ap₂ (λ (b : Bool) (x : List (List ℕ)). cond b ([] ∷ finished (s ++ 10 ∷ t)) (lengthen c x)) k.0 (finished_line s t k.1)

newline_within : (s t : List ℕ) → has_newline (s ++ 10 ∷ t) ≡ true
unfolding has_newline
newline_within s t = has_newline_append s (10 ∷ t) ∙ or-true (has_newline s)

pub unfinished_line : (s t : List ℕ) → unfinished (s ++ 10 ∷ t) ≡ unfinished t
unfolding unfinished
unfinished_line [] t = ap (λ (b : Bool). cond b (unfinished t) (10 ∷ t)) (newline_within [] t)
unfinished_line (c ∷ s) t =
    ap (λ (b : Bool). cond b (unfinished (s ++ 10 ∷ t)) (c ∷ s ++ 10 ∷ t)) (newline_within (c ∷ s) t) ∙ unfinished_line s t

-- ---- every text is of one of the two kinds

pub data Cut : List ℕ → Type 0 where
  whole : (t : List ℕ) → has_newline t ≡ false → Cut t
  line : (s t : List ℕ) → has_newline s ≡ false → Cut t → Cut (s ++ 10 ∷ t)

cut_more : (c : ℕ) (b : Bool) {t : List ℕ} → eqb c 10 ≡ b → Cut t → Cut (c ∷ t)
unfolding has_newline
cut_more c true {t} e v = subst (λ (x : ℕ). Cut (x ∷ t)) (sym (eqb-true c 10 e)) (line [] t refl v)
cut_more c false e (whole t h) = whole (c ∷ t) (ap₂ ◌||◌ e h)
cut_more c false e (line s t h v) = line (c ∷ s) t (ap₂ ◌||◌ e h) v

pub cut : (t : List ℕ) → Cut t
unfolding has_newline
cut [] = whole [] refl
cut (c ∷ t) = cut_more c (eqb c 10) refl (cut t)

-- ---- one text after another

pub finished_append : (t r : List ℕ) → finished (t ++ r) ≡ finished t ++ finished (unfinished t ++ r)
finished_append t r = go (cut t)
  where
    go : {t : List ℕ} → Cut t → finished (t ++ r) ≡ finished t ++ finished (unfinished t ++ r)
    go (whole t h) = ap₂ (λ (x : List (List ℕ)) (y : List ℕ). x ++ finished (y ++ r)) (sym (finished_none t h)) (sym (unfinished_all t h))
    go (line s t h v) =
        ap finished (append_assoc s (10 ∷ t) r)
        ∙ finished_line s (t ++ r) h
        ∙ ap (λ (x : List (List ℕ)). s ∷ x) (go v)
        ∙ ap₂ (λ (x : List (List ℕ)) (y : List ℕ). x ++ finished (y ++ r)) (sym (finished_line s t h)) (sym (unfinished_line s t))

pub unfinished_append : (t r : List ℕ) → unfinished (t ++ r) ≡ unfinished (unfinished t ++ r)
unfinished_append t r = go (cut t)
  where
    go : {t : List ℕ} → Cut t → unfinished (t ++ r) ≡ unfinished (unfinished t ++ r)
    go (whole t h) = ap (λ (y : List ℕ). unfinished (y ++ r)) (sym (unfinished_all t h))
    go (line s t h v) =
        ap unfinished (append_assoc s (10 ∷ t) r)
        ∙ unfinished_line s (t ++ r)
        ∙ go v
        ∙ ap (λ (y : List ℕ). unfinished (y ++ r)) (sym (unfinished_line s t))

-- the lines of a text that goes on: those that are finished, then those of what is left and what comes
pub lines_append : (t r : List ℕ) → lines (t ++ r) ≡ finished t ++ lines (unfinished t ++ r)
lines_append t r =
    ap₂ (λ (x : List (List ℕ)) (y : List ℕ). x ++ last_line y) (finished_append t r) (unfinished_append t r)
    ∙ append_assoc (finished t) (finished (unfinished t ++ r)) (last_line (unfinished (unfinished t ++ r)))

-- ---- answers

pub answers_append : {ls ms : List (List ℕ)} {a b : List ℕ} → Answers ls a → Answers ms b → Answers (ls ++ ms) (a ++ b)
answers_append none q = q
answers_append {ms = ms} {b = b} (then {s = s} {a = a} {b = c} {ls = ls} p ps) q =
    subst (λ (x : List ℕ). Answers (s ∷ ls ++ ms) x) (sym (append_assoc a c b)) (then p (answers_append ps q))

pub answers_one : {s a : List ℕ} → AnswerOf s a → Answers (s ∷ []) a
answers_one {s} {a} p = subst (λ (x : List ℕ). Answers (s ∷ []) x) (append-nil a) (then p none)

-- lines have one answer each
pub answers_unique : {ls : List (List ℕ)} {a b : List ℕ} → Answers ls a → Answers ls b → a ≡ b
answers_unique none none = refl
answers_unique (then p ps) (then q qs) = ap₂ ◌++◌ (answer_unique p q) (answers_unique ps qs)
