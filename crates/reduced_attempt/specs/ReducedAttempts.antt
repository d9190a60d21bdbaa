-- What an attempt asks and promises. f and g are polynomials of sent degrees d and e, whose words may be any numbers.
--
--   CommonContent n f g c  c is the greatest common divisor of n and of all words of f and g modulo n
--   PairLoaded n r j f g   the words of f, and from j on those of g, times the unit r
--   Arranged n c r a b     the words of b and then those of a, times r modulo n and over c
--   LeaveAsked, BothLeave, Left    words times r
--   HalfAsked              of the half of an attempt that factors the first polynomial: what it asks
--   HalvesAsked            of both halves, the second polynomial factored in the second
--   OtherAsked             of the second half, after the first: what it asks
--   ScaledAsked            of a half whose words stand over the content: what it asks
--   HalfAttempted          what a half promises
--   OverAsked, OverAttempted    what a half asks and promises modulo n / c, where the words over the content c stand in the window
--   AttemptAsked           what an attempt asks
--   Attempted              what it promises: D with cofactors, or n as a product of two coprime factors
--   attempt_room n M       the words that an attempt needs, M the larger sent degree
use Rattle.std.specs.Prelude.{◌≡◌, Result, Ok, Err, List, ℕ, max, ◌+◌, ◌-◌, ◌*◌, ◌/◌, ◌%◌, ◌<◌, ◌≤◌, length, get_or}
use Rattle.std.specs.Int.{◌∣◌}
use Rattle.definitions.specs.Residues.{K, IsUnit, IsNilpotent}
use Rattle.definitions.specs.Polynomials.{coef, L}
use Rattle.windows.specs.Window.{piece, Below}
use Rattle.window_factor.specs.Factors.{SplitOf, AllNilpotents}
use Rattle.reduced_units.specs.States.{Splitter}
use Rattle.residue.specs.declared.Split.{Split}
use Rattle.reduced_cofactors.specs.Cofactors.{core_room, CoreLengthsAsked, Certified, CoreCertified}
use Rattle.reduced_attempt.specs.declared.HalfAttempt.{HalfAttempt}
use Rattle.reduced_attempt.specs.declared.HalfAttempt.TheVariants.{Found, Divisors, Nilpotent}

-- S11: "D runs from 1 to n and divides n": a factor of it that f and g have in common
pub record CommonContent (n : ℕ) (f g : List ℕ) (c : ℕ) : Type 0 where
  pub divides_n : c ∣ n
  pub divides_f : (k : ℕ) → c ∣ coef f k % n
  pub divides_g : (k : ℕ) → c ∣ coef g k % n
  pub greatest : (x : ℕ) → x ∣ n → ((k : ℕ) → x ∣ coef f k % n) → ((k : ℕ) → x ∣ coef g k % n) → x ∣ c

-- A polynomial held as r f is another polynomial modulo n, and r is a unit: the words are those of r f and r g
pub record PairLoaded (n r j : ℕ) (f g w w' : List ℕ) : Type 0 where
  pub unit : IsUnit n r
  pub same : length w' ≡ length w
  pub first : (k : ℕ) → k < length f → get_or w' k 0 ≡ (r * coef f k) % n
  pub second : (k : ℕ) → k < length g → get_or w' (j + k) 0 ≡ (r * coef g k) % n
  pub between : (k : ℕ) → length f ≤ k → k < j → get_or w' k 0 ≡ get_or w k 0
  pub high : (k : ℕ) → j + length g ≤ k → get_or w' k 0 ≡ get_or w k 0

-- as the core of an attempt wants them; of the words after these nothing is promised
pub record Arranged (n c r : ℕ) (a b w w' : List ℕ) : Type 0 where
  pub unit : IsUnit n r
  pub same : length w' ≡ length w
  pub first : (k : ℕ) → k < length a → get_or w' (length b + k) 0 ≡ ((r * coef a k) % n) / c
  pub second : (k : ℕ) → k < length b → get_or w' k 0 ≡ ((r * coef b k) % n) / c

-- words that are residues
pub record LeaveAsked (n : ℕ) (x : List ℕ) : Type 0 where
  pub below : (k : ℕ) → coef x k < n

-- the same of both cofactors
pub record BothLeave (n : ℕ) (x y : List ℕ) : Type 0 where
  pub first : LeaveAsked n x
  pub second : LeaveAsked n y

-- cofactors leave times R: each word times r
pub record Left (n r : ℕ) (x x' : List ℕ) : Type 0 where
  pub same : length x' ≡ length x
  pub at : (k : ℕ) → coef x' k ≡ (r * coef x k) % n

-- all coefficients of a over c are nilpotent modulo n / c
pub record NilpotentOver (n c : ℕ) (a : List ℕ) : Type 0 where
  pub at : (k : ℕ) → IsNilpotent (n / c) ((coef a k % n) / c)

-- A half is tried where the common content c of a and b is not all of n; x and y have room for cofactors.
pub record HalfAsked (n c : ℕ) (a b x y w : List ℕ) : Type 0 where
  pub modulus : 2 ≤ n
  pub some_a : 1 ≤ length a
  pub some_b : 1 ≤ length b
  pub room : core_room n (length a - 1) (length b - 1) ≤ length w
  pub first : L n (length a - 1) (length b - 1) ≤ length x
  pub second : L n (length a - 1) (length b - 1) ≤ length y
  pub content : CommonContent n a b c
  pub proper : c ≡ n → ⊥

-- either polynomial can be the one that is factored
pub record HalvesAsked (n c : ℕ) (f g u v w : List ℕ) : Type 0 where
  pub first : HalfAsked n c f g u v w
  pub second : HalfAsked n c g f v u w

-- the second half, once the first found no coefficient of f over c that is more than nilpotent
pub record OtherAsked (n c : ℕ) (f g u v w : List ℕ) : Type 0 where
  pub half : HalfAsked n c g f v u w
  pub nilpotent : NilpotentOver n c f

-- r a and r b over c stand in w
pub record ScaledAsked (n c r : ℕ) (a b x y w : List ℕ) : Type 0 where
  pub half : HalfAsked n c a b x y w
  pub words : Arranged n c r a b w w

-- D with cofactors x' and y'; two coprime divisors of n; or no coefficient of a is more than nilpotent. In the last two, the buffers x
-- and y are left as found.
abbrev pub HalfAttempted : ℕ → ℕ → List ℕ → List ℕ → List ℕ → List ℕ → List ℕ → List ℕ → HalfAttempt ℕ → Type 0
HalfAttempted n c a b x y x' y' (Found D) = Certified n (L n (length a - 1) (length b - 1)) a b x' y' D
HalfAttempted n c a b x y x' y' (Divisors p q) = Splitter n p q × ((x' ≡ x) × (y' ≡ y))
HalfAttempted n c a b x y x' y' Nilpotent = NilpotentOver n c a × ((x' ≡ x) × (y' ≡ y))

-- the words are residues, those of degree e at 0 and then those of degree d, the polynomial that is factored
pub record OverAsked (n d e : ℕ) (x y w : List ℕ) : Type 0 where
  pub space : CoreLengthsAsked n d e w x y
  pub second : Below n 0 (e + 1) w
  pub first : Below n (e + 1) (d + 1) w

-- the same three answers of these words
abbrev pub OverAttempted : ℕ → ℕ → ℕ → List ℕ → List ℕ → List ℕ → List ℕ → List ℕ → HalfAttempt ℕ → Type 0
OverAttempted n d e w x y x' y' (Found D) = CoreCertified n d e w x' y' D
OverAttempted n d e w x y x' y' (Divisors p q) = Splitter n p q × ((x' ≡ x) × (y' ≡ y))
OverAttempted n d e w x y x' y' Nilpotent = AllNilpotents n (piece w (e + 1) (d + 1)) × ((x' ≡ x) × (y' ≡ y))

-- n is a product of two coprime factors
abbrev pub Parted : ℕ → Result ℕ (Split ℕ) → Type 0
Parted n (Ok D) = ⊥
Parted n (Err s) = SplitOf n s.p s.q

-- the words that an attempt needs
abbrev pub attempt_room : ℕ → ℕ → ℕ
attempt_room n M = 16 * (M + 1) + 2 * (K n * M)

-- f and g have a word each, and u, v and w have room
pub record AttemptAsked (n : ℕ) (f g u v w : List ℕ) : Type 0 where
  pub modulus : 2 ≤ n
  pub some_f : 1 ≤ length f
  pub some_g : 1 ≤ length g
  pub room : attempt_room n (max (length f - 1) (length g - 1)) ≤ length w
  pub first : L n (length f - 1) (length g - 1) ≤ length u
  pub second : L n (length f - 1) (length g - 1) ≤ length v

-- D with its cofactors u' and v' in the buffers u and v; or, "At a splitting coefficient", the two factors, and the buffers as found
abbrev pub Attempted : ℕ → List ℕ → List ℕ → List ℕ → List ℕ → List ℕ → List ℕ → Result ℕ (Split ℕ) → Type 0
Attempted n f g u v u' v' (Ok D) = Certified n (L n (length f - 1) (length g - 1)) f g u' v' D
Attempted n f g u v u' v' (Err s) = SplitOf n s.p s.q × ((u' ≡ u) × (v' ≡ v))
