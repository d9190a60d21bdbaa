-- The elimination column by column, and the determinant of the triangular matrix it ends in.
--
--   ColumnClearing                                     what the loop over the rows keeps, while column j is cleared
--   Triangulating                                      what the loop over the columns keeps
--   DiagonalProduct, diagonal_none, diagonal_next      the loop over the diagonal
--   residues_by, minor_by                              what is known of the record's modulus, and of the determinant
--   columns, determinants                              the rules
use mathlib.Core.Path.{◌≡◌, sym, ◌∙◌, ap}
use mathlib.Core.List.{List}
use Prim.Native.Nat.{ℕ, ◌+◌, ◌*◌, ◌%◌, ◌<◌, ◌≤◌}
use native.Mathlib.Numerals.{add-one}
use native.Mathlib.Omega.{arith}
use borrow.Author.Rules.{rules}
use Rattle.evaluator_matrices.specs.LeadingMinors.{leading_minor, minor_zero, minor_upper}
use Rattle.evaluator_matrices.specs.Elimination.{cell, ResidueCells, Triangular, MinorKept}

-- column j has zeros below the diagonal, above row i
pub record Column (j i : ℕ) (m : List (List ℕ)) : Type 0 where
  pub at : (r : ℕ) → j < r → r < i → cell m r j ≡ 0

-- the rows above i are done
pub record ColumnClearing (n k j i : ℕ) (m r : List (List ℕ)) : Type 0 where
  pub below : j < i
  pub most : i ≤ k
  pub kept : MinorKept n k m r
  pub triangular : Triangular k j r
  pub column : Column j i r

-- column after column
pub record Triangulating (n k j : ℕ) (m r : List (List ℕ)) : Type 0 where
  pub most : j ≤ k
  pub kept : MinorKept n k m r
  pub cleared : Triangular k j r

-- the product of the diagonal, word by word
pub record DiagonalProduct (n size : ℕ) (m : List (List ℕ)) (x k : ℕ) : Type 0 where
  pub most : k ≤ size
  pub minor : x ≡ leading_minor n k (cell m)

pub diagonal_none : (n size x : ℕ) (m : List (List ℕ)) → x ≡ 1 % n → DiagonalProduct n size m x 0
diagonal_none n size x m e = record { most = omega arith; minor = e ∙ sym (minor_zero _ _) }

module _ {n size x k : ℕ} {m : List (List ℕ)} (h : DiagonalProduct n size m x k) where
  pub diagonal_next : {y k' : ℕ} → y ≡ (x * cell m k k) % n → Triangular size size m → 2 ≤ n → k < size → k' ≡ k + 1
      → DiagonalProduct n size m y k'
  diagonal_next {y} {k'} hy t two p e = rw e (record {
    most = omega arith;
    minor = hy ∙ ap (λ (u : ℕ). (u * cell m k k) % n) h.minor
        ∙ sym (minor_upper n k (omega arith) (cell m) (λ r c u v. t.at r c (omega arith) (omega arith) v))
        ∙ ap (λ (u : ℕ). leading_minor n u (cell m)) (sym (add-one k));
  })

-- ---- the determinant: the record's modulus a is n

pub residues_by : {a n : ℕ} {m : List (List ℕ)} → ResidueCells n m → a ≡ n → ResidueCells a m
residues_by h e = rw e h

pub minor_by : {n k x : ℕ} {m : List (List ℕ)} (a : ℕ) (r : List (List ℕ)) → x ≡ leading_minor a k (cell r) → MinorKept a k m r → a ≡ n
    → x ≡ leading_minor n k (cell m)
minor_by {n} {k} {x} {m} a r ex h e = ex ∙ h.minor ∙ ap (λ (i : ℕ). leading_minor i k (cell m)) e

pub ruleset columns = (rules, diagonal_none, diagonal_next)

pub ruleset determinants = (rules, residues_by, minor_by)
