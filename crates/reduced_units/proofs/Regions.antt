-- The regions of a stage's window: what a change of one region leaves of the others, and multipliers as polynomials.
use mathlib.Core.Path.{◌≡◌, refl, sym, ap, ap₂, subst, ◌∙◌, fun_ext}
use mathlib.Core.List.{List, []}
use mathlib.Core.Logic.{⊎_elim}
use Prim.Native.Nat.{ℕ, zero, suc, ◌+◌, ◌-◌, ◌*◌, ◌%◌, ◌≤◌, ◌<◌}
use native.Mathlib.Omega.{arith}
use lib.ListN.{length, get_or, take, drop}
use Rattle.definitions.specs.Residues.{IsUnit}
use Rattle.definitions.specs.Polynomials.{coef}
use Rattle.windows.specs.Window.{piece, Below, Around, Apart, Kept}
use Rattle.windows.proofs.Leaf.{lt_or_le, piece_at, piece_over, piece_same, apart_at}
use Rattle.law_multipliers.specs.Multipliers.{HasMultiplier}
use Rattle.reduced_products.specs.Products.{MonicAtZero}
use Rattle.reduced_units.specs.States.{PlacesApart, Multiplier}

-- the words of a part, as a polynomial
pub part_piece : (w : List ℕ) (p a m : ℕ) → m ≡ a → take m (drop p w) ≡ piece w p a
unfolding piece
part_piece w p a m e = ap (λ (x : ℕ). take x (drop p w)) e

-- ---- windows that lie apart

pub apart_sub : {a l b m : ℕ} → Apart a l b m → (i l' j m' : ℕ) → i + l' ≤ l → j + m' ≤ m → Apart (a + i) l' (b + j) m'
apart_sub x i l' j m' p q = record { ok = λ u v h k e. x.ok (i + u) (j + v) (omega arith) (omega arith) (omega arith) }

pub apart_low : (a l b m : ℕ) → a + l ≤ b → Apart a l b m
apart_low a l b m h = record { ok = λ i j p q e. omega arith }

pub apart_swap : {a l b m : ℕ} → Apart a l b m → Apart b m a l
apart_swap x = record { ok = λ i j p q e. x.ok j i q p (sym e) }

pub below_apart : {n a l b m : ℕ} {w w' : List ℕ} → Apart a l b m → Around b m w w' → Below n a l w → Below n a l w'
below_apart {n} x r h = record { at = λ k p. subst (λ (y : ℕ). y < n) (sym (apart_at x r k p)) (h.at k p) }

pub piece_apart : {a l b m : ℕ} {w w' : List ℕ} → Apart a l b m → Around b m w w' → a + l ≤ length w → piece w' a l ≡ piece w a l
piece_apart {a} {l} {b} {m} {w} {w'} x r h = piece_same w w' a l h r.same (λ k p. apart_at x r k p)

pub multiplier_apart : {n t p l b m : ℕ} {w w' : List ℕ} → Apart p (2 * (t + 1)) b m → Around b m w w' → Multiplier n t p l w
    → Multiplier n t p l w'
multiplier_apart x r h = record { below = below_apart x r h.below; zero = λ k a b. apart_at x r k b ∙ h.zero k a b }

pub multiplier_more : {n t p l : ℕ} {w : List ℕ} (l' : ℕ) → l ≤ l' → Multiplier n t p l w → Multiplier n t p l' w
multiplier_more l' h m = record { below = m.below; zero = λ k a b. m.zero k (omega arith) b }

pub monic_apart : {n t b m : ℕ} {w w' : List ℕ} → t + 1 ≤ b → Around b m w w' → MonicAtZero n t w → MonicAtZero n t w'
monic_apart {n} h r x = record {
  lead = r.low _ (omega arith) ∙ x.lead;
  below = record { at = λ k p. subst (λ (y : ℕ). y < n) (sym (r.low (0 + k) (omega arith))) (x.below.at k p) };
}

pub kept_around : {x b m : ℕ} {w w' : List ℕ} → x ≤ b → Around b m w w' → Kept x w w'
kept_around h r = record { same = r.same; low = λ k p. r.low k (omega arith) }

pub kept_trans : {x : ℕ} {w w' w'' : List ℕ} → Kept x w w' → Kept x w' w'' → Kept x w w''
kept_trans p q = record { same = q.same ∙ p.same; low = λ k h. q.low k h ∙ p.low k h }

pub kept_piece : {x : ℕ} {w w' : List ℕ} → Kept x w w' → x ≤ length w → piece w' 0 x ≡ piece w 0 x
kept_piece {x} {w} {w'} p h = piece_same w w' 0 x (omega arith) p.same (λ k q. p.low (0 + k) (omega arith))

-- A and B change places
pub places_swap : {t pa pb al be : ℕ} → PlacesApart t pa pb al be → PlacesApart t pb pa be al
places_swap p = record {
  a_low = p.b_low;
  a_high = p.b_high;
  b_low = p.a_low;
  b_high = p.a_high;
  al_low = p.be_low;
  al_high = p.be_high;
  be_low = p.al_low;
  be_high = p.al_high;
  polynomials = apart_swap p.polynomials;
  multipliers = apart_swap p.multipliers;
}

-- ---- a multiplier is the polynomial of its first words, however many are read

pub multiplier_short : {n t p l : ℕ} {w : List ℕ} → Multiplier n t p l w → (x : ℕ) → l ≤ x → x ≤ 2 * (t + 1) → (k : ℕ) → coef
    (piece w p (2 * (t + 1))) k ≡ coef (piece w p x) k
multiplier_short {n} {t} {p} {l} {w} m x a b k =
    ⊎_elim
    (λ h. piece_at w p (2 * (t + 1)) k (omega arith) ∙ sym (piece_at w p x k h))
    (λ h. ⊎_elim
    (λ q. piece_at w p (2 * (t + 1)) k q ∙ m.zero k (omega arith) q ∙ sym (piece_over w p x k h))
    (λ q. piece_over w p (2 * (t + 1)) k q ∙ sym (piece_over w p x k h))
    (lt_or_le k (2 * (t + 1))))
    (lt_or_le k x)
