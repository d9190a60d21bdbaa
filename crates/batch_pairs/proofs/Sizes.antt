-- The test of a length against a number of pieces, by division.
--
--   quotient_differs     the quotient by d + 1 is not count, so the length is not count times d + 1
use mathlib.Core.Path.{◌≡◌, sym, ap, ◌∙◌}
use mathlib.Core.Bool.{Bool, true, not, cond}
use Prim.Native.Nat.{ℕ, suc, ◌+◌, ◌*◌, ◌/◌, ◌≤◌, ◌<◌}
use native.Mathlib.Nat.{mul-div_cancel}
use native.Mathlib.Numerals.{suc-eq-add-one}
use native.Mathlib.Omega.{arith}
use lib.Dec.{eqb}
use borrow.Author.Tests.{le-ltb, ne_eqb}
use Rattle.batch_pairs.specs.Batches.{bad_pieces_of}

within : (d count l : ℕ) → d ≤ 48 → bad_pieces_of d count l ≡ not (eqb l (count * suc d))
within d count l h = ap (λ (t : Bool). cond t true (not (eqb l (count * suc d)))) (le-ltb 48 d h)

quotient_of : (d count : ℕ) → count * suc d / (d + 1) ≡ count
quotient_of d count = ap (λ (x : ℕ). count * x / (d + 1)) (suc-eq-add-one d) ∙ mul-div_cancel count (pos d)
  where
    pos : (d : ℕ) → 0 < d + 1
    pos d = omega arith

pub quotient_differs : (d count l : ℕ) → d ≤ 48 → (l / (d + 1) ≡ count → ⊥) → true ≡ bad_pieces_of d count l
quotient_differs d count l h n =
    sym (within d count l h ∙ ap not (ne_eqb l (count * suc d) (λ e. n (ap (λ (x : ℕ). x / (d + 1)) e ∙ quotient_of d count))))
