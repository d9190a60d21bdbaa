-- Reading the words of a frame one by one.
--
--   Words s count i w₀ w    of the count words of the line s the first i stand in w, which was w₀, and their characters are digits
--   words_read              the rules
use mathlib.Core.Path.{◌≡◌, refl, sym, ap, ap₂, ◌∙◌}
use mathlib.Core.Bool.{true, false, ◌&&◌, false≢true}
use mathlib.Core.List.{List, [], ◌∷◌, ◌++◌}
use Prim.Native.Nat.{ℕ, zero, suc, ◌+◌, ◌*◌, ◌<◌, ◌≤◌}
use native.Mathlib.Omega.{arith}
use native.Mathlib.Numerals.{add-one}
use lib.ListN.{length, take, drop, set, length-set, length-drop}
use lib.Seq.{take-add, take_all, take-suc-set, drop-drop}
use borrow.Author.Rules.{rules}
use Rattle.std.specs.Prelude.{Some, None}
use Rattle.hexadecimal.specs.Readings.{reading_of}
use Rattle.hexadecimal.specs.Hexadecimal.{all_digits, number_of}
use Rattle.hexadecimal.specs.DigitLaws.{all_digits_append, all_digits_part}
use Rattle.frame_lines.specs.FrameLines.{words_of}
use Rattle.frame_lines.specs.Heads.{WordsRead}
use Rattle.frame_lines.proofs.Heads.{number_read, other_read}

words_snoc : (i : ℕ) (t : List ℕ) → words_of (suc i) t ≡ words_of i t ++ number_of (take 8 (drop (8 * i) t)) ∷ []
unfolding words_of
words_snoc zero t = refl
words_snoc (suc i) t =
    let e : 8 + 8 * i ≡ 8 * suc i = omega arith in
    ap (λ (x : List ℕ). number_of (take 8 t) ∷ x)
    (words_snoc i (drop 8 t) ∙ ap (λ (x : List ℕ). words_of i (drop 8 t) ++ number_of (take 8 x) ∷ [])
    (drop-drop (8 * i) 8 t ∙ ap (λ (x : ℕ). drop x t) e))

pub record Words (s : List ℕ) (count i : ℕ) (w₀ w : List ℕ) : Type 0 where
  pub most : i ≤ count
  pub same : length w ≡ length w₀
  pub good : all_digits (take (8 * i) (drop 14 s)) ≡ true
  pub words : take i w ≡ words_of i (drop 14 s)

pub words_none : (s : List ℕ) (count : ℕ) (w : List ℕ) → Words s count 0 w w
unfolding all_digits words_of
words_none s count w = record { most = omega arith; same = refl; good = refl; words = refl }

-- the i-th word stands 14 characters further in the line
shifted : (s : List ℕ) (i : ℕ) → drop (8 * i) (drop 14 s) ≡ drop (14 + 8 * i) s
shifted s i = drop-drop (8 * i) 14 s

pub words_next : {s : List ℕ} {count i i' : ℕ} {w₀ w w' : List ℕ} (x : ℕ) → Words s count i w₀ w → count ≤ length w₀
    → i < count → Some x ≡ reading_of (take 8 (drop (14 + 8 * i) s)) → w' ≡ set w i x → i' ≡ i + 1 → Words s count i' w₀ w'
words_next {s} {count} {i} {w = w} x p room l hr ew ei =
    let t = drop 14 s in
    let h = number_read (take 8 (drop (14 + 8 * i) s)) x hr in
    let e : 8 * (i + 1) ≡ 8 * i + 8 = omega arith in
    rw (ew, ei) (record {
      most = omega arith;
      same = length-set w i x ∙ p.same;
      good =
          ap (λ (y : ℕ). all_digits (take y t)) e
          ∙ ap all_digits (take-add (8 * i) 8 t)
          ∙ all_digits_append (take (8 * i) t) (take 8 (drop (8 * i) t))
          ∙ ap₂ ◌&&◌ p.good (ap (λ (y : List ℕ). all_digits (take 8 y)) (shifted s i) ∙ h.0);
      words =
          ap (λ (y : ℕ). take y (set w i x)) (add-one i)
          ∙ take-suc-set w i x (omega (arith, p.same))
          ∙ ap₂ (λ (y : List ℕ) (z : ℕ). y ++ z ∷ []) p.words (h.1 ∙ ap (λ (y : List ℕ). number_of (take 8 y)) (sym (shifted s i)))
          ∙ sym (words_snoc i t)
          ∙ ap (λ (y : ℕ). words_of y t) (sym (add-one i));
    })

pub words_stop : {s : List ℕ} {count i : ℕ} {w₀ w : List ℕ} → Words s count i w₀ w
    → None ≡ reading_of (take 8 (drop (14 + 8 * i) s)) → WordsRead s count w false
words_stop {s} {count} {i} p hr =
    let h = other_read (take 8 (drop (14 + 8 * i) s)) hr in
    record {
      digits = sym (all_digits_part (8 * i) 8 (drop 14 s) (ap (λ (y : List ℕ). all_digits (take 8 y)) (shifted s i) ∙ h));
      words = λ e. absurd (false≢true e);
    }

pub words_end : {s : List ℕ} {count i : ℕ} {w₀ w : List ℕ} → Words s count i w₀ w → length s ≡ 14 + 8 * count → count ≤ i
    → WordsRead s count w true
words_end {s} {count} {i} {w = w} p l z =
    let e : i ≡ count = omega (arith, p.most) in
    let q : take (8 * i) (drop 14 s) ≡ drop 14 s = take_all (8 * i) (drop 14 s) (omega (arith, length-drop 14 s)) in
    record {
      digits = sym p.good ∙ ap all_digits q;
      words = λ _. ap (λ (y : ℕ). take y w) (sym e) ∙ p.words ∙ ap (λ (y : ℕ). words_of y (drop 14 s)) e;
    }

pub ruleset words_read = (rules, words_none, words_next, words_stop, words_end)
