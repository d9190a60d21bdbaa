-- Why a line is no frame, and what is known of one whose head is right.
--
--   number_read, other_read    what a reading says of the characters read
--   heads                      the rules
use mathlib.Core.Path.{◌≡◌, refl, sym, ap, ap₂, ◌∙◌}
use mathlib.Core.Bool.{Bool, true, false, ◌||◌, and-true, and-false}
use mathlib.Core.List.{List}
use Prim.Native.Nat.{ℕ, zero, suc, ◌+◌, ◌*◌, ◌<◌, ◌≤◌}
use native.Mathlib.Omega.{arith}
use lib.ListN.{length, take, drop}
use lib.Dec.{eqb}
use lib.Seq.{drop-drop}
use borrow.Author.Rules.{rules}
use borrow.Author.Tests.{le-leb, lt-leb, ne_eqb, eq-eqb}
use Rattle.std.specs.Prelude.{Some, None}
use Rattle.hexadecimal.specs.Hexadecimal.{all_digits, number_of}
use Rattle.hexadecimal.specs.Readings.{if_digits, reading_of}
use Rattle.hexadecimal.specs.DigitLaws.{all_digits_part, all_digits_after}
use Rattle.frame_lines.specs.FrameLines.{kind_of, count_of, is_frame}
use Rattle.frame_lines.specs.declared.FrameKind.{FrameKind}
use Rattle.frame_lines.specs.declared.FrameKind.TheVariants.{Resultant, Reduced}
use Rattle.frame_lines.specs.Kinds.{kind_number, kind_of_number}
use Rattle.frame_lines.specs.Heads.{KindRead, Fields}

-- ---- what a reading says

digits_known : (b : Bool) (x y : ℕ) → Some x ≡ if_digits b y → (b ≡ true) × (x ≡ y)
digits_known true x y h = (refl, cc)
digits_known false x y h = let z : ◌≡◌ {A = ℕ} 0 1 = cc in absurd (omega arith)

other_known : (b : Bool) (y : ℕ) → None ≡ if_digits b y → b ≡ false
other_known true y h = let z : ◌≡◌ {A = ℕ} 0 1 = cc in absurd (omega arith)
other_known false y h = refl

pub number_read : (t : List ℕ) (x : ℕ) → Some x ≡ reading_of t → (all_digits t ≡ true) × (x ≡ number_of t)
number_read t x h = digits_known (all_digits t) x (number_of t) h

pub other_read : (t : List ℕ) → None ≡ reading_of t → all_digits t ≡ false
other_read t h = other_known (all_digits t) (number_of t) h

-- ---- what a number says of the kind

unknown : (k : ℕ) → None ≡ kind_of_number k → (k ≡ 1 → ⊥) × (k ≡ 2 → ⊥)
unknown zero h = (λ e. omega arith, λ e. omega arith)
unknown (suc zero) h = absurd cc
unknown (suc (suc zero)) h = absurd cc
unknown (suc (suc (suc k))) h = (λ e. omega arith, λ e. omega arith)

numbered : (k : ℕ) (f : FrameKind) → Some f ≡ kind_of_number k → (kind_number f ≡ k) × ((1 ≤ kind_number f) × (kind_number f ≤ 2))
numbered zero f h = absurd cc
numbered (suc zero) f h = let e : f ≡ Resultant = cc in rw e (refl, (omega arith, omega arith))
numbered (suc (suc zero)) f h = let e : f ≡ Reduced = cc in rw e (refl, (omega arith, omega arith))
numbered (suc (suc (suc k))) f h = absurd cc

-- ---- why a line is no frame

module _ (s : List ℕ) where
  pub too_long : 798 < length s → is_frame s ≡ false
  unfolding is_frame
  too_long h = simp (lt-leb (length s) 798 h)

  not_digits : all_digits s ≡ false → is_frame s ≡ false
  unfolding is_frame
  not_digits h = simp (h, and-false)

  other_kind : (kind_of s ≡ 1 → ⊥) → (kind_of s ≡ 2 → ⊥) → is_frame s ≡ false
  unfolding is_frame
  other_kind h k = simp (ne_eqb (kind_of s) 1 h, ne_eqb (kind_of s) 2 k, and-false)

  other_length : (length s ≡ 14 + 8 * count_of s → ⊥) → is_frame s ≡ false
  unfolding is_frame
  other_length h = simp (ne_eqb (length s) (14 + 8 * count_of s) h, and-false)

  pub too_short : length s < 14 → is_frame s ≡ false
  too_short h = other_length (λ e. omega arith)

  pub part_other : (a k : ℕ) → None ≡ reading_of (take k (drop a s)) → is_frame s ≡ false
  part_other a k h = not_digits (all_digits_part a k s (other_read (take k (drop a s)) h))

  pub kind_other : None ≡ reading_of (take 2 s) → is_frame s ≡ false
  kind_other h = part_other 0 2 h

  pub kind_unknown : (k : ℕ) → Some k ≡ reading_of (take 2 s) → None ≡ kind_of_number k → is_frame s ≡ false
  kind_unknown k h z =
      let x = number_read (take 2 s) k h in
      let n = unknown k z in
      other_kind (λ y. n.0 (x.1 ∙ y)) (λ y. n.1 (x.1 ∙ y))

  pub kind_read : (k : ℕ) {f : FrameKind} → Some k ≡ reading_of (take 2 s) → Some f ≡ kind_of_number k → 14 ≤ length s → length s ≤ 798
      → KindRead s (kind_number f)
  kind_read k {f} h e long short =
      let x = number_read (take 2 s) k h in
      let n = numbered k f e in
      record { digits = x.0; is = n.0 ∙ x.1; known = n.1; long = long; short = short }

-- ---- a head that is right

after_digits : (a k b : ℕ) (s : List ℕ) → a + k ≡ b → all_digits (take k (drop a s)) ≡ true → all_digits (drop a s) ≡ all_digits (drop b s)
after_digits a k b s e h = all_digits_after k (drop a s) h ∙ ap all_digits (drop-drop k a s ∙ ap (λ (x : ℕ). drop x s) e)

known_kind : (k : ℕ) → 1 ≤ k → k ≤ 2 → (eqb k 1 || eqb k 2) ≡ true
known_kind zero h l = absurd (omega arith)
known_kind (suc zero) h l = refl
known_kind (suc (suc zero)) h l = refl
known_kind (suc (suc (suc k))) h l = absurd (omega arith)

module _ {s : List ℕ} {k : ℕ} (kr : KindRead s k) (d e : ℕ) (hd : Some d ≡ reading_of (take 2 (drop 10 s)))
    (he : Some e ≡ reading_of (take 2 (drop 12 s))) where
  pub length_other : (length s ≡ 14 + 8 * (d + 1 + (e + 1)) → ⊥) → is_frame s ≡ false
  length_other n =
      let x = number_read (take 2 (drop 10 s)) d hd in
      let y = number_read (take 2 (drop 12 s)) e he in
      other_length s (λ h. n (omega (arith, x.1, y.1)))

  pub fields_read : (n : ℕ) → Some n ≡ reading_of (take 8 (drop 2 s)) → length s ≡ 14 + 8 * (d + 1 + (e + 1)) → Fields s k n d e
  unfolding is_frame
  fields_read n hn fit =
      let w = number_read (take 8 (drop 2 s)) n hn in
      let x = number_read (take 2 (drop 10 s)) d hd in
      let y = number_read (take 2 (drop 12 s)) e he in
      record {
        kind = kr.is;
        known = kr.known;
        modulus = w.1;
        first = x.1;
        second = y.1;
        short = kr.short;
        fits = fit;
        frame =
            simp (
              le-leb (length s) 798 kr.short,
              ap (λ (x : ℕ). eqb x 1 || eqb x 2) (sym kr.is) ∙ known_kind k kr.known.0 kr.known.1,
              eq-eqb (length s) (14 + 8 * count_of s) (fit ∙ ap₂ (λ (x y : ℕ). 14 + 8 * (x + 1 + (y + 1))) x.1 y.1),
              and-true,
            )
            (after_digits 0 2 2 s (omega arith) kr.digits
            ∙ after_digits 2 8 10 s (omega arith) w.0
            ∙ after_digits 10 2 12 s (omega arith) x.0
            ∙ after_digits 12 2 14 s (omega arith) y.0);
      }

pub ruleset heads = (rules, too_short, too_long, part_other, kind_other, kind_unknown, kind_read, length_other, fields_read)
