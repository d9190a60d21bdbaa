-- What the functions of this crate promise of the words of one buffer.
--
--   HighestOf n f r       r tells of the highest coefficient of f that is not nilpotent
--   SplitOf n p q         n is p q, both above 1 and coprime
--   LeadingUnit n t i f   coefficient t of f has the inverse i, and those above it are nilpotent
--   AllNilpotents n f     every coefficient of f is nilpotent
--   Given, Factored       unit times monic: what is asked of f, and what then stands in the buffer
--   RoundAsked, Round     one division of f by H: what is asked, and what it leaves
--   RoundLeft             the same, and the number of zeros that the remainder begins with
--   SeriesAsked, Series   the words of a power series with a given product: what the next word asks, and what stands at the end
use Rattle.std.specs.Prelude.{◌≡◌, List, ℕ, zero, suc, ◌+◌, ◌-◌, ◌*◌, ◌%◌, ◌<◌, ◌≤◌, length, get_or}
use Rattle.definitions.specs.Residues.{Inverse, IsNilpotent, Coprime}
use Rattle.definitions.specs.Polynomials.{coef, convolve, constant, Divided, Multiplied, UnitPolynomial}
use Rattle.windows.specs.Window.{piece, Below, Around}
use Rattle.window_factor.specs.declared.Highest.{Highest}
use Rattle.window_factor.specs.declared.Highest.TheVariants.{UnitAt as UnitAt', Splits, AllNilpotent}

-- ---- the highest coefficient that is not nilpotent

-- coefficient t has the inverse i, and those above it are nilpotent
pub record LeadingUnit (n t i : ℕ) (f : List ℕ) : Type 0 where
  pub place : t < length f
  pub inverse : Inverse n (coef f t) i
  pub nilpotent : (k : ℕ) → t < k → IsNilpotent n (coef f k)

-- S13: "Then n = n1 times n2, both above 1 and coprime"
pub record SplitOf (n p q : ℕ) : Type 0 where
  pub product : p * q ≡ n
  pub above₁ : 1 < p
  pub above₂ : 1 < q
  pub coprime : Coprime p q

pub record AllNilpotents (n : ℕ) (f : List ℕ) : Type 0 where
  pub at : (k : ℕ) → IsNilpotent n (coef f k)

abbrev pub HighestOf : ℕ → List ℕ → Highest ℕ → Type 0
HighestOf n f (UnitAt' t i) = LeadingUnit n t i f
HighestOf n f (Splits p q) = SplitOf n p q
HighestOf n f AllNilpotent = AllNilpotents n f

-- ---- unit times monic: f of d + 1 words, H of t + 1 words, room for the division of f by H

pub record Given (n d t i : ℕ) (w : List ℕ) : Type 0 where
  pub small : i < n
  pub below : Below n 0 (d + 1) w
  pub unit : (i * coef (piece w 0 (d + 1)) t) % n ≡ 1 % n
  pub nilpotent : (k : ℕ) → t < k → IsNilpotent n (coef (piece w 0 (d + 1)) k)

-- f and H are residues, H is monic, and the room takes a copy of f
pub record RoundAsked (n d t : ℕ) (w : List ℕ) : Type 0 where
  pub positive : 1 ≤ n
  pub within : t ≤ d
  pub fits : d + 1 + (t + 1 + (d + 1)) ≤ length w
  pub below_f : Below n 0 (d + 1) w
  pub below_h : Below n (d + 1) (t + 1) w
  pub monic : get_or w (d + 1 + t) 0 ≡ 1

-- the room holds remainder and quotient of f by H
pub record Round (n d t : ℕ) (w w' : List ℕ) : Type 0 where
  pub around : Around (d + 1 + (t + 1)) (d + 1) w w'
  pub below : Below n (d + 1 + (t + 1)) (d + 1) w'
  pub equation : Divided n (piece w 0 (d + 1)) (piece w (d + 1) (t + 1)) (piece w' (d + 1 + (t + 1) + t) (d + 1 - t))
      (piece w' (d + 1 + (t + 1)) t)

-- and the t words of the remainder begin with z zeros
pub record RoundLeft (n d t z : ℕ) (w w' : List ℕ) : Type 0 where
  pub round : Round n d t w w'
  pub most : z ≤ t
  pub zero : (k : ℕ) → k < z → get_or w' (d + 1 + (t + 1) + k) 0 ≡ 0
  pub next : z < t → get_or w' (d + 1 + (t + 1) + z) 0 ≡ 0 → ⊥

-- f is U H: H after f, U in the upper d + 1 - t words of the room
pub record Factored (n d t : ℕ) (w w' : List ℕ) : Type 0 where
  pub around : Around (d + 1) (t + 1 + (d + 1)) w w'
  pub equation : Multiplied n (piece w 0 (d + 1)) (piece w' (d + 1 + (t + 1) + t) (d + 1 - t)) (piece w' (d + 1) (t + 1))
  pub monic : coef (piece w' (d + 1) (t + 1)) t ≡ 1
  pub unit : UnitPolynomial n (piece w' (d + 1 + (t + 1) + t) (d + 1 - t))
  pub below_h : Below n (d + 1) (t + 1) w'
  pub below_u : Below n (d + 1 + (t + 1) + t) (d + 1 - t) w'

-- ---- the series Y with Y U = s U_0, i the inverse of U_0: U of k + 1 words, then len words of Y

-- Y_0 = s, and Y_j = - i (U_1 Y_{j-1} + U_2 Y_{j-2} + …)
abbrev pub next_word : ℕ → ℕ → ℕ → (ℕ → ℕ) → (ℕ → ℕ) → ℕ → ℕ
next_word n i s U Y zero = s
next_word n i s U Y (suc j) = ((n - i) * (convolve (λ x. U (suc x)) Y j % n)) % n

-- j words of Y stand after U
pub record SeriesAsked (n k i j : ℕ) (w : List ℕ) : Type 0 where
  pub positive : 1 ≤ n
  pub inverse : i ≤ n
  pub fits : k + 1 + j ≤ length w

pub record Series (n k s len : ℕ) (w w' : List ℕ) : Type 0 where
  pub around : Around (k + 1) len w w'
  pub below : Below n (k + 1) len w'
  pub equation : (j : ℕ) → j < len
      → convolve (coef (piece w' (k + 1) len)) (coef (piece w 0 (k + 1))) j % n ≡ constant (s * coef (piece w 0 (k + 1)) 0) j % n
