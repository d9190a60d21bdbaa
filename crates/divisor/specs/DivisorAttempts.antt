-- What an attempt at D asks and promises. f and g are the sent polynomials, whose words may be any numbers; c is their common content.
--
--   ArrangeAsked, Padded    both polynomials over c, m words each
--   WindowsAsked            two polynomials of m words, residues, in one buffer
--   WindowsAnswer           D of the two; two coprime divisors of n; or no coefficient of the first is more than nilpotent
--   HalfAsked               of the half of an attempt that factors the first polynomial: what it asks
--   HalfAttempted           what it promises
--   Attempted               D, or n as a product of two coprime factors
use Rattle.std.specs.Prelude.{◌≡◌, Result, Ok, Err, List, ℕ, max, ◌+◌, ◌*◌, ◌/◌, ◌%◌, ◌<◌, ◌≤◌, length, get_or}
use Rattle.definitions.specs.Residues.{IsUnit}
use Rattle.definitions.specs.Polynomials.{coef}
use Rattle.definitions.specs.Resultants.{Reduced}
use Rattle.windows.specs.Window.{piece, Below}
use Rattle.window_factor.specs.Factors.{SplitOf, AllNilpotents}
use Rattle.reduced_units.specs.States.{Splitter}
use Rattle.residue.specs.declared.Split.{Split}
use Rattle.reduced_attempt.specs.ReducedAttempts.{CommonContent, NilpotentOver}
use Rattle.reduced_attempt.specs.declared.HalfAttempt.{HalfAttempt}
use Rattle.reduced_attempt.specs.declared.HalfAttempt.TheVariants.{Found, Divisors, Nilpotent}
use Rattle.divisor.specs.Sizes.{DivisorLengthsAsked}

pub record ArrangeAsked (n c : ℕ) (f g w : List ℕ) : Type 0 where
  pub modulus : 2 ≤ n
  pub content : 1 ≤ c
  pub few_f : length f ≤ 49
  pub few_g : length g ≤ 49
  pub fits : 98 ≤ length w

-- m words each: g over c at 0, f over c at m, both times a unit; a word beyond a polynomial is 0
pub record Padded (n c m : ℕ) (f g w w' : List ℕ) : Type 0 where
  pub same : length w' ≡ length w
  pub words : m ≡ max (length f) (length g)
  pub factor : ℕ
  pub unit : IsUnit n factor
  pub first : (k : ℕ) → k < m → get_or w' (m + k) 0 ≡ ((factor * coef f k) % n) / c
  pub second : (k : ℕ) → k < m → get_or w' k 0 ≡ ((factor * coef g k) % n) / c

-- m words at 0 and at m, residues, and room for the stages
pub record WindowsAsked (n m : ℕ) (w : List ℕ) : Type 0 where
  pub two : 2 ≤ n
  pub some : 1 ≤ m
  pub room : 5 * m ≤ length w
  pub first : Below n m m w
  pub second : Below n 0 m w

abbrev pub WindowsAnswer : ℕ → ℕ → List ℕ → HalfAttempt ℕ → Type 0
WindowsAnswer n m w (Found D) = Reduced n (piece w m m) (piece w 0 m) D
WindowsAnswer n m w (Divisors p q) = Splitter n p q
WindowsAnswer n m w Nilpotent = AllNilpotents n (piece w m m)

-- a half is tried where the common content c of f and g is not all of n; v is n / c
pub record HalfAsked (n v c : ℕ) (f g w : List ℕ) : Type 0 where
  pub modulus : 2 ≤ n
  pub rest : v ≡ n / c
  pub sizes : DivisorLengthsAsked f g w
  pub content : CommonContent n f g c
  pub proper : c ≡ n → ⊥

-- D; two coprime divisors of n; or no coefficient of f over c is more than nilpotent
abbrev pub HalfAttempted : ℕ → ℕ → List ℕ → List ℕ → HalfAttempt ℕ → Type 0
HalfAttempted n c f g (Found D) = Reduced n f g D
HalfAttempted n c f g (Divisors p q) = Splitter n p q
HalfAttempted n c f g Nilpotent = NilpotentOver n c f

-- S80: "At a splitting coefficient, each of the two factors is worked as a modulus of its own": D, or the two factors
abbrev pub Attempted : ℕ → List ℕ → List ℕ → Result ℕ (Split ℕ) → Type 0
Attempted n f g (Ok D) = Reduced n f g D
Attempted n f g (Err s) = SplitOf n s.p s.q
