-- The live rows of Sylvester's matrix in the lent buffer, and what the steps on them ask and promise. Row r has the row_size words from
-- row_size r on: b words of the row at the columns that are left, at at_first its multiplier of f, of e words, and at at_second that of g,
-- of d words. There are at most 49 rows; room is asked for row_count, one more.
--
--   row_size, at_first, at_second    the words of a row, and the places of its multipliers
--   row_count, band_room        the rows that there is room for, and their words
--   cell w r j                  word j of row r
--   window o len w r c          word c of the len words from place o of row r on, 0 beyond
--   Shape b d e                 the sizes of a row
--   Band n f g b d e s l p q x w     the first l rows are live: the resultant is x times the determinant of what is left
--   HeadsBelow n w              the first word of each row is a residue
--   PairAsked, RowAsked         what a step on two rows asks
--   RowAdded, KeepsTwo, RowReduced, RowCleared     steps on two rows
--   ColumnAsked, ColumnCleared       all rows but one have 0 in the first column
--   from_top, EnterAsked, RowEntered      a row that comes in
--   ShiftAsked, RowShifted, Shifted       each row one column on
--   LeaveAsked, RowLeft         the row with the column's only word leaves
--   ComeAsked, CameIn           the rows of a column come in
--   Moment, StepAsked           what the loop over the columns keeps, and asks
--   LastAsked, LastRow          all columns
--   Scaled, CofactorsAsked, ResultantCofactors      the answer
--
-- Letters: f, g are the polynomials, d, e their degrees; b is the breadth, the larger degree and 1; i, k, r are rows, t is the row with the
-- pivot; l is the number of live rows, p and q those of the rows of f and g still to come in; w is the buffer before a step, w' after it.
use Rattle.std.specs.Prelude.{◌≡◌, ◌⊎◌, ◌≢◌, List, ℕ, suc, pred, ◌+◌, ◌*◌, ◌-◌, ◌%◌, ◌<◌, ◌≤◌, length, get_or}
use Rattle.definitions.specs.Polynomials.{coef, Residues}
use Rattle.definitions.specs.Resultants.{resultant, Combination}
use Rattle.windows.specs.Window.{piece}
use Rattle.law_rows.specs.LiveWords.{LiveWords}

abbrev pub row_size : ℕ
row_size = 145

abbrev pub at_first : ℕ
at_first = 49

abbrev pub at_second : ℕ
at_second = 97

abbrev pub row_count : ℕ
row_count = 50

abbrev pub band_room : ℕ
band_room = 7250

abbrev pub cell : List ℕ → ℕ → ℕ → ℕ
cell w r j = get_or w (row_size * r + j) 0

abbrev pub window : ℕ → ℕ → List ℕ → ℕ → ℕ → ℕ
window o len w r c = coef (piece w (row_size * r + o) len) c

pub record Shape (b d e : ℕ) : Type 0 where
  pub first : d < b
  pub second : e < b
  pub most : b ≤ 49

pub record Band (n : ℕ) (f g : List ℕ) (b d e s l p q x : ℕ) (w : List ℕ) : Type 0 where
  pub live : LiveWords (pred n) f g s l p q x (window 0 b w) (window at_first e w) (window at_second d w)
  pub below : (r c : ℕ) → window 0 b w r c < n
  pub factor : x < n

pub record HeadsBelow (n : ℕ) (w : List ℕ) : Type 0 where
  pub at : (r : ℕ) → get_or w (row_size * r) 0 < n

-- ---- two rows

pub record PairAsked (n b d e i k : ℕ) (w : List ℕ) : Type 0 where
  pub modulus : 1 ≤ n
  pub shape : Shape b d e
  pub row : i < row_count
  pub other : k < row_count
  pub apart : i ≢ k
  pub room : band_room ≤ length w

-- c times the row i is added to the row k
pub record RowAdded (n c b d e i k : ℕ) (w w' : List ℕ) : Type 0 where
  pub same : length w' ≡ length w
  pub words : (j : ℕ) → j < b → cell w' k (0 + j) ≡ (cell w k (0 + j) + c * cell w i (0 + j)) % n
  pub first : (j : ℕ) → j < e → cell w' k (at_first + j) ≡ (cell w k (at_first + j) + c * cell w i (at_first + j)) % n
  pub second : (j : ℕ) → j < d → cell w' k (at_second + j) ≡ (cell w k (at_second + j) + c * cell w i (at_second + j)) % n
  pub others : (r j : ℕ) → j < row_size → r ≢ k → cell w' r j ≡ cell w r j

-- live rows stay live, and only the rows i and k are changed
pub record KeepsTwo (n b d e i k : ℕ) (w w' : List ℕ) : Type 0 where
  pub same : length w' ≡ length w
  pub band : (f g : List ℕ) (s l p q x : ℕ) → i < l → k < l → Band n f g b d e s l p q x w → Band n f g b d e s l p q x w'
  pub heads : HeadsBelow n w → HeadsBelow n w'
  pub others : (r : ℕ) → r ≢ i → r ≢ k → get_or w' (row_size * r) 0 ≡ get_or w (row_size * r) 0

-- the row i lost so many times the row k that the remainder of their first words is left
pub record RowReduced (n b d e i k : ℕ) (w w' : List ℕ) : Type 0 where
  pub keeps : KeepsTwo n b d e i k w w'
  pub remainder : get_or w' (row_size * i) 0 ≡ get_or w (row_size * i) 0 % get_or w (row_size * k) 0
  pub divisor : get_or w' (row_size * k) 0 ≡ get_or w (row_size * k) 0

-- of the rows i and k all but t have 0 in the first column
pub record RowCleared (n b d e i k t : ℕ) (w w' : List ℕ) : Type 0 where
  pub keeps : KeepsTwo n b d e i k w w'
  pub pivot : (t ≡ i) ⊎ (t ≡ k)
  pub zero : (r : ℕ) → (r ≡ i) ⊎ (r ≡ k) → r ≢ t → get_or w' (row_size * r) 0 ≡ 0

-- the same, where i may be k
pub record RowAsked (n b d e i k : ℕ) (w : List ℕ) : Type 0 where
  pub modulus : 1 ≤ n
  pub shape : Shape b d e
  pub row : i < row_count
  pub other : k < row_count
  pub room : band_room ≤ length w
  pub heads : HeadsBelow n w

-- ---- a column

pub record ColumnAsked (n b d e l t : ℕ) (w : List ℕ) : Type 0 where
  pub modulus : 1 ≤ n
  pub shape : Shape b d e
  pub rows : l < row_count
  pub row : t < l
  pub room : band_room ≤ length w
  pub heads : HeadsBelow n w

-- live rows stay live
pub record KeepsAll (n b d e l : ℕ) (w w' : List ℕ) : Type 0 where
  pub same : length w' ≡ length w
  pub band : (f g : List ℕ) (s p q x : ℕ) → Band n f g b d e s l p q x w → Band n f g b d e s l p q x w'
  pub heads : HeadsBelow n w'

-- of the first j rows all but t have 0 in the first column
pub record ColumnCleared (n b d e l j t : ℕ) (w w' : List ℕ) : Type 0 where
  pub keeps : KeepsAll n b d e l w w'
  pub pivot : t < l
  pub zeros : (r : ℕ) → r < j → r ≢ t → get_or w' (row_size * r) 0 ≡ 0

-- ---- rows that come in and leave

-- the words of h, the top word first
abbrev pub from_top : List ℕ → ℕ → ℕ
from_top h j = get_or h (length h - 1 - j) 0

pub record EnterAsked (r : ℕ) (h : List ℕ) (o p : ℕ) (w : List ℕ) : Type 0 where
  pub row : r < row_count
  pub some : 1 ≤ length h
  pub few : length h ≤ 49
  pub place : at_first ≤ o
  pub power : o + p < row_size
  pub room : band_room ≤ length w

-- row r is h with its top word first, its multiplier at o is x^p and the other is 0
pub record RowEntered (r : ℕ) (h : List ℕ) (o p : ℕ) (w w' : List ℕ) : Type 0 where
  pub same : length w' ≡ length w
  pub head : (j : ℕ) → j < length h → cell w' r j ≡ from_top h j
  pub rest : (j : ℕ) → length h ≤ j → j < at_first → cell w' r j ≡ 0
  pub one : cell w' r (o + p) ≡ 1
  pub none : (j : ℕ) → at_first ≤ j → j < row_size → j ≢ o + p → cell w' r j ≡ 0
  pub others : (i j : ℕ) → j < row_size → i ≢ r → cell w' i j ≡ cell w i j

-- row i one column on
pub record RowShifted (i b : ℕ) (w w' : List ℕ) : Type 0 where
  pub same : length w' ≡ length w
  pub at : (j : ℕ) → suc j < b → cell w' i j ≡ cell w i (suc j)
  pub last : cell w' i (b - 1) ≡ 0
  pub upper : (j : ℕ) → b ≤ j → j < row_size → cell w' i j ≡ cell w i j
  pub others : (r j : ℕ) → j < row_size → r ≢ i → cell w' r j ≡ cell w r j

-- the first l rows one column on
pub record Shifted (l b : ℕ) (w w' : List ℕ) : Type 0 where
  pub same : length w' ≡ length w
  pub at : (i j : ℕ) → i < l → suc j < b → cell w' i j ≡ cell w i (suc j)
  pub last : (i : ℕ) → i < l → cell w' i (b - 1) ≡ 0
  pub upper : (i j : ℕ) → i < l → b ≤ j → j < row_size → cell w' i j ≡ cell w i j
  pub others : (i j : ℕ) → l ≤ i → j < row_size → cell w' i j ≡ cell w i j

pub record ShiftAsked (l b : ℕ) (w : List ℕ) : Type 0 where
  pub rows : l ≤ row_count
  pub some : 1 ≤ b
  pub most : b ≤ 49
  pub room : band_room ≤ length w

pub record LeaveAsked (n b t l x : ℕ) (w : List ℕ) : Type 0 where
  pub modulus : 1 ≤ n
  pub row : t ≤ l
  pub rows : l < row_count
  pub some : 1 ≤ b
  pub most : b ≤ 49
  pub factor : x < n
  pub room : band_room ≤ length w

-- of l + 1 rows the row t, which has the column's only word, leaves; y is the new factor
pub record RowLeft (n b t l x : ℕ) (w w' : List ℕ) (y : ℕ) : Type 0 where
  pub band : (f g : List ℕ) (d e p q : ℕ) → Shape b d e → ((r : ℕ) → r < suc l → r ≢ t → get_or w (row_size * r) 0 ≡ 0)
      → Band n f g b d e 1 (suc l) p q x w → Band n f g b d e 0 l p q y w'

-- ---- the loop over the columns

-- what coming in asks: column j is next, l rows are live
pub record ComeAsked (n : ℕ) (f g : List ℕ) (d e j l x : ℕ) (w : List ℕ) : Type 0 where
  pub modulus : 2 ≤ n
  pub first : length f ≡ d + 1
  pub second : length g ≡ e + 1
  pub most_first : d ≤ 48
  pub most_second : e ≤ 48
  pub count : l + (e - j) + (d - j) + j ≡ d + e
  pub factor : x < n
  pub room : band_room ≤ length w

-- the rows that begin at column j are in: l' rows with the factor x'
pub record CameIn (n : ℕ) (f g : List ℕ) (d e j l x : ℕ) (w : List ℕ) (l' x' : ℕ) (w' : List ℕ) : Type 0 where
  pub count : l' + (e - (j + 1)) + (d - (j + 1)) + j ≡ d + e
  pub band : (b : ℕ) → Shape b d e → Residues n f → Residues n g → Band n f g b d e 0 l (e - j) (d - j) x w
      → Band n f g b d e 1 l' (e - (j + 1)) (d - (j + 1)) x' w'

-- column j is next, and what is left are the rows and columns from j on
pub record Moment (n : ℕ) (f g : List ℕ) (b d e j l x : ℕ) (w : List ℕ) : Type 0 where
  pub band : Band n f g b d e 0 l (e - j) (d - j) x w
  pub count : l + (e - j) + (d - j) + j ≡ d + e

-- what the loop asks of f and g
pub record StepAsked (n : ℕ) (f g : List ℕ) (b d e : ℕ) : Type 0 where
  pub modulus : 2 ≤ n
  pub shape : Shape b d e
  pub first : length f ≡ d + 1
  pub second : length g ≡ e + 1
  pub residues_f : Residues n f
  pub residues_g : Residues n g
  pub some : 1 ≤ d + e

-- what all columns ask
pub record LastAsked (n : ℕ) (f g w : List ℕ) : Type 0 where
  pub modulus : 2 ≤ n
  pub some_f : 1 ≤ length f
  pub few_f : length f ≤ 49
  pub some_g : 1 ≤ length g
  pub few_g : length g ≤ 49
  pub residues_f : Residues n f
  pub residues_g : Residues n g
  pub degrees : 3 ≤ length f + length g
  pub room : band_room ≤ length w

-- one row of one word is left, the first: the resultant is x times it
pub record LastRow (n : ℕ) (f g : List ℕ) (x : ℕ) (w : List ℕ) : Type 0 where
  pub b : ℕ
  pub shape : Shape b (length f - 1) (length g - 1)
  pub band : Band n f g b (length f - 1) (length g - 1) 1 1 0 0 x w

-- ---- the answer

-- u is x times the words of w from a place on
pub record Scaled (n x at : ℕ) (w u u' : List ℕ) : Type 0 where
  pub same : length u' ≡ length u
  pub word : (k : ℕ) → k < length u → get_or u' k 0 ≡ (x * get_or w (at + k) 0) % n

pub record CofactorsAsked (n : ℕ) (f g u v w : List ℕ) : Type 0 where
  pub modulus : 2 ≤ n
  pub some_f : 1 ≤ length f
  pub few_f : length f ≤ 49
  pub some_g : 1 ≤ length g
  pub few_g : length g ≤ 49
  pub residues_f : Residues n f
  pub residues_g : Residues n g
  pub degrees : 3 ≤ length f + length g
  pub first : length u + 1 ≡ length g
  pub second : length v + 1 ≡ length f
  pub room : band_room ≤ length w

-- "u of e words and v of d words with uf + vg equal to the resultant modulo n" (02, W1)
pub record ResultantCofactors (n : ℕ) (f g u v : List ℕ) (x : ℕ) : Type 0 where
  pub value : x ≡ resultant n f g
  pub first : Residues n u
  pub second : Residues n v
  pub combination : Combination n f g u v x
