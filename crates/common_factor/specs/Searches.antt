-- What the search for a common divisor asks and promises. It works modulo m, where only zero is reached, and m may shrink to a divisor
-- above 1. The words of a polynomial count modulo m only.
--
--   Stripped m f m' l          the first l words of f are left, modulo m'
--   StepAsked, Stepped         one division, of the polynomial at a by the one at b; ResiduesAt both modulo m before it
--   EuclidAsked                what the algorithm asks: f of degree d at a, its leading word a unit, and l words at b
--   CommonIn                   what it promises: a divisor of both, in the buffer
--   StartAsked, SearchAsked    what the search asks, of polynomials in the buffer and of lent ones; BothLoaded puts these there
--   ZeroIn, GroundIn           what it promises
--   MonicAsked, WrittenOut, MonicOf    a polynomial is written out, times the inverse of its leading word
use Rattle.std.specs.Prelude.{◌≡◌, List, ℕ, ◌+◌, ◌-◌, ◌*◌, ◌%◌, ◌<◌, ◌≤◌, length, get_or}
use Rattle.std.specs.Int.{◌∣◌}
use Rattle.definitions.specs.Residues.{IsUnit}
use Rattle.definitions.specs.Polynomials.{coef, Divided}
use Rattle.modulus.specs.Values.{Known}
use Rattle.windows.specs.Window.{piece, Apart}
use Rattle.common_factor.specs.Common.{DividesModulo, ZeroModulo, OnlyZero}
use Rattle.common_factor.specs.declared.Found.{Found}
use Rattle.common_factor.specs.declared.Ground.{Ground}
use Rattle.common_factor.specs.declared.Ground.TheVariants.{Zero, Common}

-- modulo m', a divisor of m, the words from place l on vanish, and the one below them is a unit
pub record Stripped (m : ℕ) (f : List ℕ) (m' l : ℕ) : Type 0 where
  pub divides : m' ∣ m
  pub two : 2 ≤ m'
  pub few : l ≤ length f
  pub zero : (k : ℕ) → l ≤ k → m' ∣ coef f k
  pub unit : 1 ≤ l → IsUnit m' (coef f (l - 1))

-- f of degree d at a is to be divided by g of degree e at b, whose leading word is a unit
pub record StepAsked (m a d b e : ℕ) (w : List ℕ) : Type 0 where
  pub two : 2 ≤ m
  pub one : 1 ≤ e
  pub near : e ≤ d + 1
  pub first : a + d < length w
  pub second : b + e < length w
  pub apart : Apart b (e + 1) a (d + 1)
  pub unit : IsUnit m (get_or w (b + e) 0)

-- both stand modulo m where they stood
pub record ResiduesAt (m a d b e : ℕ) (w w' : List ℕ) : Type 0 where
  pub same : length w' ≡ length w
  pub first : (i : ℕ) → i < d + 1 → get_or w' (a + i) 0 ≡ get_or w (a + i) 0 % m
  pub second : (i : ℕ) → i < e + 1 → get_or w' (b + i) 0 ≡ get_or w (b + i) 0 % m

-- the remainder stands at a, and g is what it was modulo m
pub record Stepped (m a d b e : ℕ) (w w' : List ℕ) : Type 0 where
  pub same : length w' ≡ length w
  pub divisor : (k : ℕ) → coef (piece w' b (e + 1)) k % m ≡ coef (piece w b (e + 1)) k % m
  pub quotient : List ℕ
  pub divided : Divided m (piece w a (d + 1)) (piece w b (e + 1)) quotient (piece w' a e)

-- f of degree d at a, its leading word a unit, and g of l words at b, no more than f has; only zero is reached
pub record EuclidAsked (m a d b l : ℕ) (w : List ℕ) : Type 0 where
  pub two : 2 ≤ m
  pub near : l ≤ d + 1
  pub first : a + d < length w
  pub second : b + l ≤ length w
  pub apart : Apart b l a (d + 1)
  pub unit : IsUnit m (get_or w (a + d) 0)
  pub only : OnlyZero m (piece w a (d + 1)) (piece w b l)

-- a polynomial of degree t, from 1 to d, at a place of w, its leading word a unit modulo the n of a record, a divisor of m above 1:
-- it divides f and g modulo n
pub record CommonIn (m d : ℕ) (f g w : List ℕ) (h : Found) : Type 0 where
  pub known : Known h.m
  pub divides : h.m.n ∣ m
  pub two : 2 ≤ h.m.n
  pub one : 1 ≤ h.degree
  pub few : h.degree ≤ d
  pub inside : h.at + h.degree < length w
  pub unit : IsUnit h.m.n (get_or w (h.at + h.degree) 0)
  pub first : DividesModulo h.m.n (piece w h.at (h.degree + 1)) f
  pub second : DividesModulo h.m.n (piece w h.at (h.degree + 1)) g

-- f of x words at 0 and g of y words after it; only zero is reached
pub record StartAsked (m x y : ℕ) (w : List ℕ) : Type 0 where
  pub two : 2 ≤ m
  pub room : x + y ≤ length w
  pub few_x : x ≤ 49
  pub few_y : y ≤ 49
  pub only : OnlyZero m (piece w 0 x) (piece w x y)

-- the same of lent polynomials, and room for both
pub record SearchAsked (m : ℕ) (f g w : List ℕ) : Type 0 where
  pub two : 2 ≤ m
  pub room : length f + length g ≤ length w
  pub few_f : length f ≤ 49
  pub few_g : length g ≤ 49
  pub only : OnlyZero m f g

-- f at 0 and g after it, modulo m
pub record BothLoaded (m : ℕ) (f g w w' : List ℕ) : Type 0 where
  pub same : length w' ≡ length w
  pub first : (k : ℕ) → coef (piece w' 0 (length f)) k % m ≡ coef f k % m
  pub second : (k : ℕ) → coef (piece w' (length f) (length g)) k % m ≡ coef g k % m

-- both are zero modulo m', a divisor of m above 1
pub record ZeroIn (m : ℕ) (f g : List ℕ) (m' : ℕ) : Type 0 where
  pub divides : m' ∣ m
  pub two : 2 ≤ m'
  pub first : ZeroModulo m' f
  pub second : ZeroModulo m' g

-- "one of two grounds: both polynomials are zero modulo m, or a monic w of degree at least 1 divides both modulo m" (02, W4)
abbrev pub GroundIn : ℕ → List ℕ → List ℕ → List ℕ → Ground → Type 0
GroundIn m f g w (Zero m') = ZeroIn m f g m'
GroundIn m f g w (Common h) = CommonIn m 48 f g w h

-- the words of degree t at a place of w, whose leading word is a unit, fit in the buffer
pub record MonicAsked (m a t : ℕ) (out w : List ℕ) : Type 0 where
  pub two : 2 ≤ m
  pub fits : t < length out
  pub inside : a + t < length w
  pub unit : IsUnit m (get_or w (a + t) 0)

-- the words modulo m, and zeros above them
pub record WrittenOut (m a t : ℕ) (w out out' : List ℕ) : Type 0 where
  pub same : length out' ≡ length out
  pub words : (k : ℕ) → k ≤ t → coef out' k ≡ get_or w (a + k) 0 % m
  pub above : (k : ℕ) → t < k → coef out' k ≡ 0

-- the leading word becomes 1, and there are zeros above it
pub record MonicOf (m a t : ℕ) (w out out' : List ℕ) : Type 0 where
  pub same : length out' ≡ length out
  pub inverse : ℕ
  pub words : (k : ℕ) → k ≤ t → coef out' k ≡ (inverse * get_or w (a + k) 0) % m
  pub lead : coef out' t ≡ 1
  pub above : (k : ℕ) → t < k → coef out' k ≡ 0
