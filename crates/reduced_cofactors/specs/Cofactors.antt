-- What the core of an attempt asks and promises. F and G are polynomials modulo n, of degrees d and e; F = U H with U a unit polynomial and
-- H monic of degree t. The window holds G at 0, then F, and at q = e + 1 + (d + 1) the polynomial H.
--
--   CoreLengthsAsked, CoreAsked       room for an attempt; and F and G in the window
--   Certified n len f g u v D         D is the reduced resultant of f and g, u f + v g = D, the cofactors have at most len words
--   CoreCertified, CoreAnswer         such a D for F and G; or two coprime divisors of n, with nothing written to the cofactors
--   FactoredAt, FindAsked, FoundAt, Found, DivideAsked, DividedBy, FinishAsked, Finished    what the parts of the core ask and promise
use Rattle.std.specs.Prelude.{◌≡◌, Result, Ok, Err, List, ℕ, ◌+◌, ◌-◌, ◌*◌, ◌<◌, ◌≤◌, length, get_or}
use Rattle.definitions.specs.Residues.{K}
use Rattle.definitions.specs.Polynomials.{coef, L, Multiplied, UnitPolynomial}
use Rattle.definitions.specs.Resultants.{Combination, Reduced}
use Rattle.windows.specs.Window.{piece, Below, Moved, second}
use Rattle.window_factor.specs.Factors.{LeadingUnit}
use Rattle.law_multipliers.specs.Multipliers.{NegatedInverse, Completes}
use Rattle.reduced_units.specs.States.{Splitter}
use Rattle.reduced_quotients.specs.Quotients.{ExactQuotient}
use Rattle.residue.specs.declared.Split.{Split}

-- the words that an attempt needs where F of degree d is the polynomial that is factored
abbrev pub core_room : ℕ → ℕ → ℕ → ℕ
core_room n d e = 3 * (e + 1) + 13 * (d + 1) + 2 * (K n * d)

-- room for an attempt: "Each cofactor buffer must have L words or more", and the window has the words that it needs
pub record CoreLengthsAsked (n d e : ℕ) (w x y : List ℕ) : Type 0 where
  pub above : 2 ≤ n
  pub room : core_room n d e ≤ length w
  pub long_x : L n d e ≤ length x
  pub long_y : L n d e ≤ length y

-- G at 0 and F after it; the coefficient of F at t has the inverse i, and those above it are nilpotent
pub record CoreAsked (n d e t i : ℕ) (w x y : List ℕ) : Type 0 where
  pub space : CoreLengthsAsked n d e w x y
  pub second : Below n 0 (e + 1) w
  pub first : Below n (e + 1) (d + 1) w
  pub lead : LeadingUnit n t i (piece w (e + 1) (d + 1))

-- S10, S11: "some polynomials u and v, of any degree, make uf + vg equal to c modulo n; it is reached exactly when D divides c": D, and u
-- and v for c = D, "zeros above"
pub record Certified (n len : ℕ) (f g u v : List ℕ) (D : ℕ) : Type 0 where
  pub reduced : Reduced n f g D
  pub combination : Combination n f g u v D
  pub below_u : (k : ℕ) → coef u k < n
  pub below_v : (k : ℕ) → coef v k < n
  pub short_u : (k : ℕ) → len ≤ k → coef u k ≡ 0
  pub short_v : (k : ℕ) → len ≤ k → coef v k ≡ 0

-- the same of F and G in the window w
abbrev pub CoreCertified : ℕ → ℕ → ℕ → List ℕ → List ℕ → List ℕ → ℕ → Type 0
CoreCertified n d e w u v D = Certified n (L n d e) (piece w (e + 1) (d + 1)) (piece w 0 (e + 1)) u v D

-- the cofactor buffers x and y hold u and v afterwards; where n splits they are left as found
abbrev pub CoreAnswer : ℕ → ℕ → ℕ → List ℕ → List ℕ → List ℕ → List ℕ → List ℕ → Result ℕ (Split ℕ) → Type 0
CoreAnswer n d e w x y u v (Ok D) = CoreCertified n d e w u v D
CoreAnswer n d e w x y u v (Err s) = Splitter n s.p s.q × ((u ≡ x) × (v ≡ y))

-- the unit polynomial of k + 1 words at e + 1, H at q and the t words of a multiplier after it; room for the cofactors
pub record FinishAsked (n e q t k : ℕ) (w x y : List ℕ) : Type 0 where
  pub above : 2 ≤ n
  pub degree : 1 ≤ t
  pub near : e + 1 + (k + 1) ≤ q
  pub second : Below n 0 (e + 1) w
  pub room : q + 2 * (t + 1) + (t + e + 1) + ((k + 1) + (2 * (K n * k + 1) + (e + 1))) ≤ length w
  pub long_x : (K n - 1) * k + (e + 1) ≤ length x
  pub long_y : t ≤ length y
  pub below_h : Below n q (t + 1) w
  pub lead : get_or w (q + t) 0 ≡ 1
  pub multiplier : Below n (q + (t + 1)) t w
  pub unit : UnitPolynomial n (piece w (e + 1) (k + 1))

-- the same without the cofactors: room for the quotient by H and a copy of the unit polynomial
pub record DivideAsked (n e q t k : ℕ) (w : List ℕ) : Type 0 where
  pub above : 2 ≤ n
  pub degree : 1 ≤ t
  pub near : e + 1 + (k + 1) ≤ q
  pub second : Below n 0 (e + 1) w
  pub room : q + 2 * (t + 1) + (t + e + 1) + (k + 1) ≤ length w
  pub below_h : Below n q (t + 1) w
  pub lead : get_or w (q + t) 0 ≡ 1
  pub multiplier : Below n (q + (t + 1)) t w

-- the window after the division and after the copy
pub record DividedBy (n e q t k c : ℕ) (w w' : List ℕ) : Type 0 where
  pub w₁ : List ℕ
  pub quotient : ExactQuotient n e q t c w w₁
  pub unit : Moved second (e + 1) (q + 2 * (t + 1) + (t + e + 1)) (k + 1) w₁ w'

-- x and y are cofactors of c for f = U H and G, where the t words at q + (t + 1) complete to c
pub record Finished (n e q t k c : ℕ) (w x y : List ℕ) : Type 0 where
  pub j : List ℕ
  pub inverse : NegatedInverse n (piece w (e + 1) (k + 1)) j
  pub combination : (f : List ℕ) → Multiplied n f (piece w (e + 1) (k + 1)) (piece w q (t + 1))
      → Completes n (piece w q (t + 1)) (piece w 0 (e + 1)) (piece w (q + (t + 1)) t) c
      → Combination n f (piece w 0 (e + 1)) x y c
  pub below_x : (i : ℕ) → coef x i < n
  pub below_y : (i : ℕ) → coef y i < n
  pub short_x : (i : ℕ) → (K n - 1) * k + (e + 1) ≤ i → coef x i ≡ 0
  pub short_y : (i : ℕ) → t ≤ i → coef y i ≡ 0

-- the place of H
abbrev pub monic_place : ℕ → ℕ → ℕ
monic_place d e = e + 1 + (d + 1)

-- F = U H, as unit times monic leaves it
pub record FactoredAt (n d e t : ℕ) (w : List ℕ) : Type 0 where
  pub second : Below n 0 (e + 1) w
  pub equation : Multiplied n (piece w (e + 1) (d + 1)) (piece w (monic_place d e + (t + 1) + t) (d + 1 - t))
      (piece w (monic_place d e) (t + 1))
  pub monic : get_or w (monic_place d e + t) 0 ≡ 1
  pub below_h : Below n (monic_place d e) (t + 1) w
  pub unit : UnitPolynomial n (piece w (monic_place d e + (t + 1) + t) (d + 1 - t))

-- F = U H in the window, and room
pub record FindAsked (n d e t : ℕ) (w : List ℕ) : Type 0 where
  pub above : 2 ≤ n
  pub degree : 1 ≤ t
  pub within : t ≤ d
  pub room : core_room n d e ≤ length w
  pub factored : FactoredAt n d e t w

-- D is the reduced resultant of H and G, and the t words behind H complete to it; G and H are kept, and U stands at the place of F
pub record FoundAt (n d e t D : ℕ) (w w' : List ℕ) : Type 0 where
  pub same : length w' ≡ length w
  pub second : piece w' 0 (e + 1) ≡ piece w 0 (e + 1)
  pub first : piece w' (e + 1) (d - t + 1) ≡ piece w (monic_place d e + (t + 1) + t) (d + 1 - t)
  pub monic : piece w' (monic_place d e) (t + 1) ≡ piece w (monic_place d e) (t + 1)
  pub below_h : Below n (monic_place d e) (t + 1) w'
  pub lead : get_or w' (monic_place d e + t) 0 ≡ 1
  pub multiplier : Below n (monic_place d e + (t + 1)) t w'
  pub reduced : Reduced n (piece w (monic_place d e) (t + 1)) (piece w 0 (e + 1)) D
  pub completes : Completes n (piece w (monic_place d e) (t + 1)) (piece w 0 (e + 1)) (piece w' (monic_place d e + (t + 1)) t) D

-- such a D; or two coprime divisors of n
abbrev pub Found : ℕ → ℕ → ℕ → ℕ → List ℕ → List ℕ → Result ℕ (Split ℕ) → Type 0
Found n d e t w w' (Ok D) = FoundAt n d e t D w w'
Found n d e t w w' (Err s) = Splitter n s.p s.q
