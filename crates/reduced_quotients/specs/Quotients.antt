-- What the quotients and the preparation ask and promise of the words of one window: G of degree e at 0, and H, monic of degree t, at q.
--
--   OverUnitAsked, OverFirst            a polynomial over a unit polynomial
--   PrepareAsked, RestAt, Prepared      G modulo H, and the window from q on, ready for the content stage
--   ExactQuotientAsked, ExactQuotient   a constant less a product, by H
use Rattle.std.specs.Prelude.{◌≡◌, List, [], ℕ, ◌+◌, ◌-◌, ◌*◌, ◌%◌, ◌<◌, ◌≤◌, length, get_or}
use Rattle.definitions.specs.Residues.{K}
use Rattle.definitions.specs.Polynomials.{coef, constant, Divided}
use Rattle.windows.specs.Window.{piece, Below, Around}
use Rattle.law_multipliers.specs.Multipliers.{NegatedInverse}

-- lz residues at zp lie before the unit polynomial at up; above it is room for its inverse twice and for the product, and x holds the
-- quotient
pub record OverUnitAsked (n up k zp lz : ℕ) (w x : List ℕ) : Type 0 where
  pub modulus : 2 ≤ n
  pub some : 1 ≤ lz
  pub lies : zp + lz ≤ up
  pub below : Below n zp lz w
  pub room : up + (k + 1) + (2 * (K n * k + 1) + lz) ≤ length w
  pub quotient : (K n - 1) * k + lz ≤ length x

-- x is the lz words at zp over the unit polynomial of k + 1 words at up
pub record OverFirst (n up k zp lz : ℕ) (w x : List ℕ) : Type 0 where
  pub j : List ℕ
  pub inverse : NegatedInverse n (piece w up (k + 1)) j
  pub divided : Divided n [] (piece w zp lz) j x
  pub below : (i : ℕ) → coef x i < n
  pub short : (i : ℕ) → (K n - 1) * k + lz ≤ i → coef x i ≡ 0

-- G lies before H, H has degree above 0, and from q on there is room for eight polynomials like H and for the division of G
pub record PrepareAsked (n e q t : ℕ) (w : List ℕ) : Type 0 where
  pub modulus : 2 ≤ n
  pub degree : 1 ≤ t
  pub lies : e + 1 ≤ q
  pub room : q + 8 * (t + 1) + (e + 1 + t) ≤ length w

-- G modulo H, t words at q + 8 (t + 1)
pub record RestAt (n e q t : ℕ) (w w' : List ℕ) : Type 0 where
  pub around : Around (q + 8 * (t + 1)) (e + 1 + t) w w'
  pub below : Below n (q + 8 * (t + 1)) t w'
  pub z : List ℕ
  pub divided : Divided n (piece w 0 (e + 1)) (piece w q (t + 1)) z (piece w' (q + 8 * (t + 1)) t)

-- the window from q on, as the content stage wants it: H and G modulo H, with the multipliers 0 and 1
pub record Prepared (n e q t : ℕ) (w w' : List ℕ) : Type 0 where
  pub same : length w' ≡ length w
  pub low : (k : ℕ) → k < q + (t + 1) → get_or w' k 0 ≡ get_or w k 0
  pub first : piece w' (q + 2 * (t + 1)) (t + 1) ≡ piece w q (t + 1)
  pub second : Below n (q + 3 * (t + 1)) t w'
  pub z : List ℕ
  pub divided : Divided n (piece w 0 (e + 1)) (piece w q (t + 1)) z (piece w' (q + 3 * (t + 1)) t)
  pub none : (k : ℕ) → k < 2 * (t + 1) → get_or w' (q + 4 * (t + 1) + k) 0 ≡ 0
  pub one : (k : ℕ) → k < 2 * (t + 1) → get_or w' (q + 6 * (t + 1) + k) 0 ≡ constant 1 k

-- G, of residues, lies before H, H has degree above 0, and above H and the multiplier there is room for their product
pub record ExactQuotientAsked (n e q t : ℕ) (w : List ℕ) : Type 0 where
  pub modulus : 2 ≤ n
  pub degree : 1 ≤ t
  pub lies : e + 1 ≤ q
  pub room : q + 2 * (t + 1) + (t + e + 1) ≤ length w
  pub second : Below n 0 (e + 1) w

-- c less the product of G and the t words at q + (t + 1), by H: the remainder, t words, and the quotient, e + 1 words, from
-- q + 2 (t + 1) on
pub record ExactQuotient (n e q t c : ℕ) (w w' : List ℕ) : Type 0 where
  pub around : Around (q + 2 * (t + 1)) (t + e + 1) w w'
  pub below : Below n (q + 2 * (t + 1)) (t + e + 1) w'
  pub s : List ℕ
  pub r : List ℕ
  pub start : (k : ℕ) → coef s k % n ≡ constant c k % n
  pub product : Divided n s (piece w 0 (e + 1)) (piece w (q + (t + 1)) t) r
  pub divided : Divided n r (piece w q (t + 1)) (piece w' (q + 2 * (t + 1) + t) (e + 1)) (piece w' (q + 2 * (t + 1)) t)
