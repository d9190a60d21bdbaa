-- Looking for a newline, and keeping a pending line.
--
--   part_kept, line_put              an unfinished line, once a part is written after it
--   clear-...                        how far there is no newline
--   scans, holds                     the rules
use mathlib.Core.Path.{◌≡◌, refl, sym, ap, ap₂, ◌∙◌, subst}
use mathlib.Core.Bool.{Bool, false, ◌||◌}
use mathlib.Core.List.{List, [], ◌∷◌, ◌++◌}
use Prim.Native.Nat.{ℕ, ◌+◌, ◌-◌, ◌<◌, ◌≤◌}
use native.Mathlib.Omega.{arith}
use lib.ListN.{length, get_or, take, drop, length-append, length-drop}
use lib.Seq.{take-add, drop-cons, drop-drop, length-take-le}
use lib.Bits.{bit_and, and_le_r}
use borrow.Author.Rules.{rules}
use borrow.Rule.Slice.PartMut.{put_mid}
use Rattle.std.proofs.lemmas.Slice.{take-put_mid, drop-put_mid, overwrites}
use borrow.Author.Tests.{ne_eqb}
use Rattle.hexadecimal.specs.Joining.{Bytes, Joined}
use Rattle.hexadecimal.proofs.Eights.{each, mask, masked}
use Rattle.frame_pieces.specs.Newlines.{has_newline, none_in_either, Clear, Pending, KeepsPending, LineAfter}

-- ---- looking for a newline

pub clear_none : (p : List ℕ) (a : ℕ) → a ≤ length p → Clear p a a
unfolding has_newline
clear_none p a h =
    let e : a - a ≡ 0 = omega arith in
    record { least = omega arith; most = h; before = ap (λ (x : ℕ). has_newline (take x (drop a p))) e }

-- k characters more
clear_more : {p : List ℕ} {a j : ℕ} (k : ℕ) → Clear p a j → j + k ≤ length p → has_newline (take k (drop j p)) ≡ false → Clear p a (j + k)
clear_more {p} {a} {j} k q l h =
    let e : j + k - a ≡ j - a + k = omega (arith, q.least) in
    let f : a + (j - a) ≡ j = omega (arith, q.least) in
    record {
      least = omega (arith, q.least);
      most = l;
      before = ap (λ (x : ℕ). has_newline (take x (drop a p))) e
          ∙ ap has_newline (take-add (j - a) k (drop a p))
          ∙ none_in_either (take (j - a) (drop a p)) (take k (drop (j - a) (drop a p))) q.before
          (ap (λ (x : List ℕ). has_newline (take k x)) (drop-drop (j - a) a p ∙ ap (λ (x : ℕ). drop x p) f) ∙ h);
    }

pub clear_next : {p : List ℕ} {a j j' : ℕ} → Clear p a j → j < length p → (get_or p j 0 ≡ 10 → ⊥) → j' ≡ j + 1 → Clear p a j'
unfolding has_newline
clear_next {p} {a} {j} q l n e =
    subst (Clear p a) (sym e) (clear_more 1 q (omega arith)
    (ap (λ (x : List ℕ). has_newline (take 1 x)) (drop-cons p j 0 l) ∙ ap (λ (b : Bool). b || false) (ne_eqb (get_or p j 0) 10 n)))

-- a newline has not the bit 32
bit_clear : (t : List ℕ) → Bytes t → each (λ (c : ℕ). bit_and c 32) t ≡ each (λ (c : ℕ). 32) t → has_newline t ≡ false
unfolding each has_newline
bit_clear [] b e = refl
bit_clear (c ∷ t) b e =
    let h : bit_and c 32 ≡ 32 = omega (arith, and_le_r c 32) in
    let n : c ≡ 10 → ⊥ = λ k. no_bit (sym (ap (λ (x : ℕ). bit_and x 32) k) ∙ h) in
    ap₂ ◌||◌ (ne_eqb c 10 n) (bit_clear t b.1 (omega (arith, and_le_r c 32)))
  where
    no_bit : bit_and 10 32 ≡ 32 → ⊥
    no_bit h = omega arith

pub clear_eight : {p : List ℕ} {a j j' : ℕ} (x : ℕ) → Clear p a j → 8 ≤ length p - j → Joined (take 8 (drop j p)) x
    → bit_and x 0x2020202020202020 ≡ 0x2020202020202020 → j' ≡ j + 8 → Clear p a j'
clear_eight {p} {a} {j} x q l w h e =
    let t = take 8 (drop j p) in
    let len : length t ≡ 8 = length-take-le 8 (drop j p) (omega (arith, length-drop j p)) in
    subst (Clear p a) (sym e) (clear_more 8 q (omega arith)
    (bit_clear t w.bytes (sym (masked len w 32 (omega arith)) ∙ h ∙ sym (mask 32 t len))))

-- ---- holding

put_length : (h : ℕ) {p y : List ℕ} → y ≡ p → length y ≡ h + length p - h
put_length h same = ap length same ∙ omega arith

-- the part p, or y that is p, written from place h on, in the first 798 words of b₀
module _ {h : ℕ} {b₀ p : List ℕ} (l : h ≤ 798) (fit : length p ≤ 798 - h) (room : 798 ≤ length b₀) (y : List ℕ) (same : y ≡ p) where
  pub part_kept : KeepsPending h b₀ p (h + length p) (put_mid h (h + length p - h) b₀ y)
  part_kept = record {
    pending = λ s k n. record {
      single = none_in_either s p k.single n;
      count = omega (arith, k.count, length-append s p);
      kept = λ _. take-put_mid h (h + length p - h) b₀ y (h + length p) (ap (λ (x : List ℕ). h + length x) (sym same)) (omega arith)
          ∙ ap₂ ◌++◌ (k.kept l) same;
    };
  }

  pub line_put : LineAfter (h + length p) b₀ (put_mid h (h + length p - h) b₀ y)
  line_put = record {
    most = omega arith;
    same = let z : length y ≡ h + length p - h = put_length h same in search (rules, overwrites);
    beyond = drop-put_mid h (h + length p - h) b₀ y 798 (omega arith) (omega arith) (put_length h same);
  }

long_pending : {h : ℕ} {b₀ : List ℕ} (b p s : List ℕ) → 798 < h + length p → Pending s h b₀ → has_newline p ≡ false → Pending (s ++ p) 799 b
long_pending b p s l k n = record {
  single = none_in_either s p k.single n;
  count = omega (arith, k.count, length-append s p);
  kept = λ z. absurd (omega arith);
}

pub keeping_long : {h : ℕ} {b₀ : List ℕ} (b p s : List ℕ) → Pending s h b₀ → has_newline p ≡ false → 798 < h → Pending (s ++ p) 799 b
keeping_long b p s k n l = long_pending b p s (omega arith) k n

pub keeping_longer : {h : ℕ} {b₀ : List ℕ} (b p s : List ℕ) → Pending s h b₀ → has_newline p ≡ false → h ≤ 798 → 798 - h < length p
    → Pending (s ++ p) 799 b
keeping_longer b p s k n l m = long_pending b p s (omega arith) k n

pub line_long : (b : List ℕ) → LineAfter 799 b b
line_long b = record { most = omega arith; same = refl; beyond = refl }

-- ---- the rules

pub ruleset scans = (rules, clear_none, clear_next, clear_eight)

pub ruleset holds = (rules, part_kept, line_put, keeping_long, keeping_longer, line_long)

-- ---- what callers need

pub pending_counted : {s b : List ℕ} {h x : ℕ} → x ≡ h → Pending s h b → Pending s x b
pending_counted {s} {b} e k = subst (λ (y : ℕ). Pending s y b) (sym e) k

pub line_unchanged : (h : ℕ) (b : List ℕ) → h ≤ 799 → LineAfter h b b
line_unchanged h b l = record { most = l; same = refl; beyond = refl }

pub line_then : {h r : ℕ} {b₀ b b' : List ℕ} → LineAfter h b₀ b → LineAfter r b b' → LineAfter r b₀ b'
line_then p q = record { most = q.most; same = q.same ∙ p.same; beyond = q.beyond ∙ p.beyond }
