-- What S5, S6, S9 and S15 to S19 say of polynomials over Z/nZ. A polynomial is a list of words, constant first; all words are compared
-- modulo n.
--
--   coef f k, deg f       coefficient k, and the sent degree
--   convolve p q k        the sum of p i · q j over i + j = k
--   product n f g         the product, of sent degree d + e
--   Monic, UnitPolynomial, Division, UnitTimesMonic, InverseOf
--   extent f              the number of words up to the highest nonzero one
--   true_degree f         none, or the place of the highest nonzero word
--   L n d e               the length of a cofactor
use Rattle.std.specs.Prelude.{◌≡◌, List, [], ◌∷◌, true, false, ℕ, zero, suc, pred, max, ◌+◌, ◌*◌, ◌-◌, ◌%◌, ◌<◌, length, get_or, eqb}
use Rattle.definitions.specs.Residues.{K, IsUnit, IsNilpotent}

-- coefficient k, 0 beyond the words sent
abbrev pub coef : List ℕ → ℕ → ℕ
coef f k = get_or f k 0

-- the number of words up to the highest nonzero one
unfoldable pub extent : List ℕ → ℕ
extent [] = 0
extent (x ∷ f) = elim (extent f) [ zero ↦ elim (eqb x 0) [ true ↦ 0 | false ↦ 1 ] | suc k ↦ suc (suc k) ]

-- S5: "A polynomial of sent degree d is d + 1 words, constant first." The top word may be zero.
abbrev pub deg : List ℕ → ℕ
deg f = pred (length f)

-- F 0 + … + F (n - 1)
abbrev pub total : ℕ → (ℕ → ℕ) → ℕ
total zero F = 0
total (suc n) F = F zero + total n (λ i. F (suc i))

-- S9: "the sum … of word i of f times word j of g, over all i and j that add to k"
abbrev pub convolve : (ℕ → ℕ) → (ℕ → ℕ) → ℕ → ℕ
convolve p q k = total (suc k) (λ i. p i * q (k - i))

-- F 0, …, F (n - 1)
abbrev pub tabulate : ℕ → (ℕ → ℕ) → List ℕ
tabulate zero F = []
tabulate (suc n) F = F zero ∷ tabulate n (λ i. F (suc i))

-- S9: "Product … word k, for k from 0 to d + e … Its sent degree is d + e, also when its top word comes out zero."
abbrev pub product : ℕ → List ℕ → List ℕ → List ℕ
product n f g = tabulate (suc (deg f + deg g)) (λ k. convolve (coef f) (coef g) k % n)

-- the constant c as coefficients
abbrev pub constant : ℕ → ℕ → ℕ
constant c zero = c
constant c (suc k) = 0

-- every word is a residue
pub record Residues (n : ℕ) (f : List ℕ) : Type 0 where
  pub at : (k : ℕ) → k < length f → coef f k < n

-- f = a b modulo n
pub record Multiplied (n : ℕ) (f a b : List ℕ) : Type 0 where
  pub at : (k : ℕ) → coef f k % n ≡ convolve (coef a) (coef b) k % n

-- f = q g + r modulo n
pub record Divided (n : ℕ) (f g q r : List ℕ) : Type 0 where
  pub at : (k : ℕ) → (convolve (coef q) (coef g) k + coef r k) % n ≡ coef f k % n

-- S17: "h monic of degree t"
pub record Monic (n t : ℕ) (h : List ℕ) : Type 0 where
  pub lead : coef h t % n ≡ 1 % n
  pub above : (k : ℕ) → t < k → coef h k % n ≡ 0

-- S16: "Unit polynomial: constant a unit, all other coefficients nilpotent."
pub record UnitPolynomial (n : ℕ) (u : List ℕ) : Type 0 where
  pub unit : IsUnit n (coef u 0)
  pub nilpotent : (k : ℕ) → 0 < k → IsNilpotent n (coef u k)

-- S15: the length of a quotient: "q of d - e + 1 words, or one zero word if d < e"
abbrev pub quotient_length : ℕ → ℕ → ℕ
quotient_length d e = suc (d - e)

-- S15: "Division by a polynomial whose top word is a unit: f = qg + r, r of e words (none for e = 0)"
pub record Division (n : ℕ) (f g q r : List ℕ) : Type 0 where
  pub length_q : length q ≡ quotient_length (deg f) (deg g)
  pub length_r : length r ≡ deg g
  pub residues_q : Residues n q
  pub residues_r : Residues n r
  pub short : deg f < deg g → coef q 0 ≡ 0
  pub equation : Divided n f g q r

-- S17: "if some coefficient t is a unit and all above it are nilpotent"
pub record UnitAt (n t : ℕ) (f : List ℕ) : Type 0 where
  pub unit : IsUnit n (coef f t)
  pub nilpotent : (k : ℕ) → t < k → IsNilpotent n (coef f k)

-- S17: "the polynomial is u times h, h monic of degree t, u a unit polynomial." Unit and monic part d + 1 words each, zeros above.
pub record UnitTimesMonic (n : ℕ) (f : List ℕ) (t : ℕ) (u h : List ℕ) : Type 0 where
  pub length_u : length u ≡ length f
  pub length_h : length h ≡ length f
  pub residues_u : Residues n u
  pub residues_h : Residues n h
  pub unit : UnitPolynomial n u
  pub monic : Monic n t h
  pub equation : Multiplied n f u h

-- S16: "Its inverse fits in K times d, plus 1, words."
pub record InverseOf (n : ℕ) (u w : List ℕ) : Type 0 where
  pub length_w : length w ≡ suc (K n * deg u)
  pub residues_w : Residues n w
  pub equation : (k : ℕ) → convolve (coef w) (coef u) k % n ≡ constant 1 k % n

-- S18: "True degree: the place of the highest nonzero coefficient"; "The true degree of a zero polynomial is now "none""
pub data TrueDegree : Type 0 where
  none : TrueDegree
  place : ℕ → TrueDegree

abbrev pub true_degree : List ℕ → TrueDegree
true_degree f = elim (extent f) [ zero ↦ none | suc k ↦ place k ]

-- S19: "Cofactor length L = K times the larger sent degree, plus 1."
abbrev pub L : ℕ → ℕ → ℕ → ℕ
L n d e = suc (K n * max d e)
