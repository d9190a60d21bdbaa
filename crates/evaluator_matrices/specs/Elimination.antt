-- Eight rows of eight words, and what the steps of the elimination promise. m is the matrix before a step, m' the one after it.
--
--   cell m r c               the word of row r at column c
--   ResidueCells n m         every word is below n
--   LessMultiple n q x y z   the row z is x less q times y
--   Reducible n i h j m, Exchangeable n i j m, BelowDiagonal n i j m, ColumnNext n k j m     what the steps ask for
--   Combined n i j m m'      only the rows i and j are changed, each to a combination of both, and no leading minor that has both changes
--   RowReduced n i h j       row i lost so many times row h that a remainder is left at column j
--   Exchanged n i j          rows i and j changed places, and one of them its sign
--   EntryCleared n i j       as Combined, and row i has 0 at column j
--   Triangular k j m         of the first k rows the columns before j have zeros below the diagonal
--   MinorKept n k m m'       the leading minor of size k is kept
use Rattle.std.specs.Prelude.{◌≡◌, ◌≢◌, List, [], ℕ, ◌+◌, ◌*◌, ◌-◌, ◌%◌, ◌<◌, ◌≤◌, get_or}
use Rattle.evaluator_matrices.specs.LeadingMinors.{leading_minor}

abbrev pub cell : List (List ℕ) → ℕ → ℕ → ℕ
cell m r c = get_or (get_or m r []) c 0

pub record ResidueCells (n : ℕ) (m : List (List ℕ)) : Type 0 where
  pub at : (r c : ℕ) → r < 8 → c < 8 → cell m r c < n

pub record LessMultiple (n q : ℕ) (x y z : List ℕ) : Type 0 where
  pub at : (c : ℕ) → c < 8 → get_or z c 0 ≡ (get_or x c 0 + (n - q) * get_or y c 0) % n

pub record Combined (n i j : ℕ) (m m' : List (List ℕ)) : Type 0 where
  pub others : (r c : ℕ) → r < 8 → c < 8 → r ≢ i → r ≢ j → cell m' r c ≡ cell m r c
  pub zeros : (c : ℕ) → c < 8 → cell m i c ≡ 0 → cell m j c ≡ 0 → (cell m' i c ≡ 0) × (cell m' j c ≡ 0)
  pub residues : ResidueCells n m'
  pub minor : (k : ℕ) → k ≤ 8 → i < k → j < k → leading_minor n k (cell m') ≡ leading_minor n k (cell m)

-- row i may lose multiples of row h by their words at column j
pub record Reducible (n i h j : ℕ) (m : List (List ℕ)) : Type 0 where
  pub modulus : 2 ≤ n
  pub row : i < 8
  pub other : h < 8
  pub column : j < 8
  pub apart : i ≢ h
  pub residues : ResidueCells n m
  pub divisor : 1 ≤ cell m h j

-- rows i and j may change places
pub record Exchangeable (n i j : ℕ) (m : List (List ℕ)) : Type 0 where
  pub modulus : 2 ≤ n
  pub first : i < 8
  pub second : j < 8
  pub apart : i ≢ j
  pub residues : ResidueCells n m

-- row i is below the diagonal at column j
pub record BelowDiagonal (n i j : ℕ) (m : List (List ℕ)) : Type 0 where
  pub modulus : 2 ≤ n
  pub below : j < i
  pub row : i < 8
  pub residues : ResidueCells n m

pub record RowReduced (n i h j : ℕ) (m m' : List (List ℕ)) : Type 0 where
  pub combined : Combined n i h m m'
  pub remainder : cell m' i j ≡ cell m i j % cell m h j
  pub divisor : cell m' h j ≡ cell m h j

pub record Exchanged (n i j : ℕ) (m m' : List (List ℕ)) : Type 0 where
  pub combined : Combined n i j m m'
  pub first : (c : ℕ) → c < 8 → cell m' i c ≡ ((n - 1) * cell m j c) % n
  pub second : (c : ℕ) → c < 8 → cell m' j c ≡ cell m i c

pub record EntryCleared (n i j : ℕ) (m m' : List (List ℕ)) : Type 0 where
  pub combined : Combined n i j m m'
  pub zero : cell m' i j ≡ 0

pub record Triangular (k j : ℕ) (m : List (List ℕ)) : Type 0 where
  pub at : (r c : ℕ) → r < k → c < j → c < r → cell m r c ≡ 0

-- of the first k rows, the columns before j are cleared and column j is next
pub record ColumnNext (n k j : ℕ) (m : List (List ℕ)) : Type 0 where
  pub modulus : 2 ≤ n
  pub column : j < k
  pub size : k ≤ 8
  pub residues : ResidueCells n m
  pub cleared : Triangular k j m

pub record MinorKept (n k : ℕ) (m m' : List (List ℕ)) : Type 0 where
  pub residues : ResidueCells n m'
  pub minor : leading_minor n k (cell m') ≡ leading_minor n k (cell m)
