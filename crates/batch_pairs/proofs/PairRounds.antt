-- The words of a pair of a batch.
--
--   part_is        the words from i (d + 1) to i (d + 1) + (d + 1) are the i-th piece
--   of_pieces      what is true of those words is true of the pieces
use mathlib.Core.Path.{◌≡◌, ap₂, subst}
use mathlib.Core.List.{List}
use Prim.Native.Nat.{ℕ, suc, ◌+◌, ◌-◌, ◌*◌}
use native.Mathlib.Omega.{arith}
use lib.ListN.{take, drop}
use borrow.Rule.Slice.PartMut.{mid_of}
use Rattle.batch_pairs.specs.Batches.{piece}

size_of : (a d : ℕ) → a + (d + 1) - a ≡ suc d
size_of a d = omega arith

place_of : (i d : ℕ) → i * (d + 1) ≡ i * suc d
place_of i d = omega arith

pub part_is : (i d : ℕ) (f : List ℕ) → mid_of (i * (d + 1)) (i * (d + 1) + (d + 1) - i * (d + 1)) f ≡ piece d i f
part_is i d f = ap₂ (λ (k a : ℕ). take k (drop a f)) (size_of (i * (d + 1)) d) (place_of i d)

pub of_pieces : (P : List ℕ → List ℕ → ℕ → Type 0) (i d e r : ℕ) (f g : List ℕ)
    → P (mid_of (i * (d + 1)) (i * (d + 1) + (d + 1) - i * (d + 1)) f) (mid_of (i * (e + 1)) (i * (e + 1) + (e + 1) - i * (e + 1)) g) r
    → P (piece d i f) (piece e i g) r
of_pieces P i d e r f g h =
    subst (λ (y : List ℕ). P (piece d i f) y r) (part_is i e g)
    (subst (λ (x : List ℕ). P x (mid_of (i * (e + 1)) (i * (e + 1) + (e + 1) - i * (e + 1)) g) r) (part_is i d f) h)
