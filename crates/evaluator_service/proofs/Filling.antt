-- The words of Sylvester's matrix, and the resultant as its determinant.
--
--   row_word               what is written of a word of a row
--   filled_residues        the words are residues where those of f and g are
--   evaluated              the determinant of the matrix is the resultant
use mathlib.Core.Path.{◌≡◌, sym, ◌∙◌, ap, ap₂, subst}
use mathlib.Core.Bool.{Bool, true, false, cond}
use mathlib.Core.List.{List, []}
use Prim.Native.Nat.{ℕ, ◌+◌, ◌-◌, ◌<◌, ◌≤◌}
use native.Mathlib.Decide.{dec_lt}
use native.Mathlib.Nat.{lt_of_lt_of_le}
use native.Mathlib.Numerals.{sub-one}
use native.Mathlib.Omega.{arith}
use borrow.Author.Rules.{rules}
use borrow.Author.Tests.{lt-ltb, le-ltb, le-leb, lt-leb}
use lib.Dec.{ltb, leb}
use lib.IntN.{pos, nat_abs}
use lib.ListN.{length, get_or-eq_default}
use Rattle.definitions.specs.Polynomials.{coef, deg, Residues}
use Rattle.definitions.specs.Resultants.{sylvester, resultant}
use Rattle.refusals.proofs.Degrees.{degrees_are}
use Rattle.evaluator_service.specs.SylvesterRows.{entry}
use Rattle.evaluator_matrices.specs.Elimination.{cell, ResidueCells}
use Rattle.evaluator_matrices.specs.LeadingMinors.{leading_minor, minor_sylvester}
use Rattle.evaluator_matrices.proofs.Arrays.{ArrayWritten, array_none, array_next}
use Rattle.evaluator_service.specs.Sylvester.{HoldsSylvester, HoldsSylvesterRow}

-- ---- the matrix, word by word and row by row

abbrev pub row_word : List ℕ → List ℕ → ℕ → ℕ → ℕ → Type 0
row_word f g r c w = pos w ≡ sylvester f g r c

pub filled_residues : (n : ℕ) (f g : List ℕ) (m : List (List ℕ)) → 1 ≤ n → Residues n f → Residues n g → HoldsSylvester f g m
    → ResidueCells n m
filled_residues n f g m one hf hg h = record { at = λ r c p q. either (ltb r (deg g)) r c (h.at r c p q) }
  where
    below : (f : List ℕ) → Residues n f → (k : ℕ) → coef f k < n
    below f b k = go (dec_lt k (length f))
      where
        go : Dec (k < length f) → coef f k < n
        go (yes l) = b.at k l
        go (no l) = subst (λ (x : ℕ). x < n) (sym (get_or-eq_default f 0 {n = k} (omega arith))) one

    row : (s t : Bool) (a x : ℕ) → a < n → pos x ≡ cond s (cond t (pos a) (pos 0)) (pos 0) → x < n
    row true true a x l e = subst (λ (y : ℕ). y < n) (sym (ap nat_abs e)) l
    row true false a x l e = subst (λ (y : ℕ). y < n) (sym (ap nat_abs e)) one
    row false t a x l e = subst (λ (y : ℕ). y < n) (sym (ap nat_abs e)) one

    either : (t : Bool) (r c : ℕ) → pos (cell m r c) ≡ cond t (entry (deg f) f r c) (entry (deg g) g (r - deg g) c) → cell m r c < n
    either true r c e = row (leb r c) (leb c (r + deg f)) (coef f (r + deg f - c)) (cell m r c) (below f hf (r + deg f - c)) e
    either false r c e =
        row (leb (r - deg g) c) (leb c (r - deg g + deg g)) (coef g (r - deg g + deg g - c)) (cell m r c)
        (below g hg (r - deg g + deg g - c)) e

pub evaluated : (n : ℕ) (f g : List ℕ) (m : List (List ℕ)) → length f - 1 + (length g - 1) ≤ 8 → HoldsSylvester f g m
    → leading_minor n (length f - 1 + (length g - 1)) (cell m) ≡ resultant n f g
evaluated n f g m l h =
    ap (λ (k : ℕ). leading_minor n k (cell m)) (degrees_are f g)
    ∙ minor_sylvester n f g (cell m) (λ x c u v. h.at x c (inside x u) (inside c v))
  where
    inside : (x : ℕ) → x < deg f + deg g → x < 8
    inside x u = lt_of_lt_of_le u (subst (λ (k : ℕ). k ≤ 8) (degrees_are f g) l)
