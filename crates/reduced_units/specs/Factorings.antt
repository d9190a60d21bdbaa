-- What the parts of taking a unit factor ask and promise of the words of a stage's window (see States).
--
--   SplitAsked, UnitSplit    B = U H modulo ν: H in the place of B, U in the room
--   Negated                  -1 / U, of len words
--   OverAsked, OverUnit      a multiplier over U, modulo the polynomial at 0
--   UnitTaken                the three together
use Rattle.std.specs.Prelude.{◌≡◌, List, [], ℕ, ◌+◌, ◌-◌, ◌*◌, ◌/◌, ◌%◌, ◌<◌, ◌≤◌, length, get_or}
use Rattle.definitions.specs.Residues.{K}
use Rattle.definitions.specs.Polynomials.{Multiplied, UnitPolynomial}
use Rattle.windows.specs.Window.{piece, Below, Around, Outside}
use Rattle.law_multipliers.specs.Multipliers.{Taken, NegatedInverse}
use Rattle.window_factor.specs.Factors.{LeadingUnit}
use Rattle.reduced_products.specs.Products.{MonicAtZero}
use Rattle.reduced_units.specs.States.{Multiplier}

-- the place of U
abbrev pub unit_place : ℕ → ℕ → ℕ → ℕ
unit_place t a s = 8 * (t + 1) + (a + (s + 1) + s)

-- B of a words at pb, before the room: its coefficient at s has the inverse i, and those above it are nilpotent
pub record SplitAsked (ν t pb a s i : ℕ) (w : List ℕ) : Type 0 where
  pub above : 2 ≤ ν
  pub shorter : s < a
  pub within : a ≤ t
  pub low : pb + a ≤ 8 * (t + 1)
  pub room : 11 * (t + 1) ≤ length w
  pub below : Below ν pb a w
  pub lead : LeadingUnit ν s i (piece w pb a)

-- B is the product of U, a unit polynomial, and the monic polynomial of degree s that stands in its place
pub record UnitSplit (ν t pb a s : ℕ) (w w' : List ℕ) : Type 0 where
  pub outside : Outside pb (s + 1) (8 * (t + 1)) (3 * (t + 1)) w w'
  pub equation : Multiplied ν (piece w pb a) (piece w' (unit_place t a s) (a - s)) (piece w' pb (s + 1))
  pub monic : get_or w' (pb + s) 0 ≡ 1
  pub unit : UnitPolynomial ν (piece w' (unit_place t a s) (a - s))
  pub below : Below ν pb (s + 1) w'

-- U of k + 1 words at x, and then -1 / U
pub record Negated (ν x k len : ℕ) (w w' : List ℕ) : Type 0 where
  pub is_len : len ≡ (K ν - 1) * k + 1
  pub around : Around (x + (k + 1)) len w w'
  pub below : Below ν (x + (k + 1)) len w'
  pub inverse : NegatedInverse ν (piece w x (k + 1)) (piece w' (x + (k + 1)) len)

-- the len words of an inverse at x and the l words of a multiplier at be, after the monic polynomial of degree t at 0; room from y on
pub record OverAsked (n t x len be l y : ℕ) (w : List ℕ) : Type 0 where
  pub positive : 1 ≤ n
  pub degree : 1 ≤ t
  pub some_inverse : 1 ≤ len
  pub some : 1 ≤ l
  pub most : l ≤ t
  pub low : t + 1 ≤ be
  pub next : be + 2 * (t + 1) ≤ x
  pub last : x + len ≤ y
  pub room : y + (len + t) ≤ length w
  pub monic : MonicAtZero n t w
  pub below : Below n x len w
  pub multiplier : Multiplier n t be l w

-- the multiplier at be loses nothing but its product with the len words at x, taken from 0; it had l words, and has r
pub record OverUnit (n t x len be l y r : ℕ) (w w' : List ℕ) : Type 0 where
  pub outside : Outside be t y (len + t) w w'
  pub longer : l ≤ r
  pub most : r ≤ t
  pub multiplier : Multiplier n t be r w'
  pub taken : Taken n (piece w 0 (t + 1)) (piece w be (2 * (t + 1))) (piece w x len) [] (piece w' be (2 * (t + 1)))

-- B = u H modulo ν, with H, monic of degree s, in the place of B; and -1 over u times the multiplier of B stands in that one's place
pub record UnitTaken (n ν t pb a be s l r : ℕ) (w w' : List ℕ) : Type 0 where
  pub same : length w' ≡ length w
  pub at : (k : ℕ) → k < 8 * (t + 1)
      → ((i : ℕ) → i < s + 1 → k ≡ pb + i → ⊥)
      → ((i : ℕ) → i < t → k ≡ be + i → ⊥)
      → get_or w' k 0 ≡ get_or w k 0
  pub u : List ℕ
  pub j : List ℕ
  pub equation : Multiplied ν (piece w pb a) u (piece w' pb (s + 1))
  pub inverse : NegatedInverse ν u j
  pub monic : get_or w' (pb + s) 0 ≡ 1
  pub below : Below ν pb (s + 1) w'
  pub longer : l ≤ r
  pub most : r ≤ t
  pub multiplier : Multiplier n t be r w'
  pub taken : Taken n (piece w 0 (t + 1)) (piece w be (2 * (t + 1))) j [] (piece w' be (2 * (t + 1)))
