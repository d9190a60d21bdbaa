-- Polynomials as text (S55). A text is a list of characters by their codes; 42 is the star, 43 the plus sign, 48 the
-- digit 0, 94 the circumflex and 120 the x. A polynomial f is its words, constant first.
--
--   decimal x                 the digits of x
--   power_text k, term c k    what is written of power k, and of the coefficient c with it
--   plus_joined s t           s and t with a plus sign between them, if both are there
--   terms k f                 the terms of f, whose first word belongs to power k
--   text f                    the text of f
--   last_place t              the place of the last word that is kept
--   dropped f                 f with zero top words dropped
--   padded m x                x with zeros above, up to m
--   TextOf n s f              f is the polynomial over Z/nZ that the text s is read as
use Rattle.std.specs.Prelude.{◌≡◌, true, false, List, [], ◌∷◌, ◌++◌, ℕ, zero, suc, ◌+◌, ◌-◌, ◌/◌, ◌%◌, ◌≤◌, ltb, length, take, replicate}
use Rattle.definitions.specs.Polynomials.{Residues, TrueDegree, none, place, true_degree}

-- the digits of x where they are at most k
unfoldable pub digits_within : ℕ → ℕ → List ℕ
digits_within zero x = []
digits_within (suc k) x = elim (ltb x 10) [ true ↦ (48 + x) ∷ [] | false ↦ digits_within k (x / 10) ++ ((48 + x % 10) ∷ []) ]

-- S55: "decimal …, no number has a leading zero"
abbrev pub decimal : ℕ → List ℕ
decimal x = digits_within (suc x) x

-- S55: "for power 1 the two characters `*x`, for a higher power k the characters `*x^` and then k in decimal"
abbrev pub power_text : ℕ → List ℕ
power_text zero = []
power_text (suc zero) = 42 ∷ 120 ∷ []
power_text (suc (suc k)) = 42 ∷ 120 ∷ 94 ∷ decimal (suc (suc k))

-- "a coefficient", and its power; a coefficient 0 has no term
abbrev pub term : ℕ → ℕ → List ℕ
term zero k = []
term (suc c) k = decimal (suc c) ++ power_text k

-- S55: "joined by a plus sign"
abbrev pub plus_joined : List ℕ → List ℕ → List ℕ
plus_joined [] t = t
plus_joined (a ∷ s) [] = a ∷ s
plus_joined (a ∷ s) (b ∷ t) = (a ∷ s) ++ (43 ∷ b ∷ t)

-- S55: "Terms run from high power to low"
unfoldable pub terms : ℕ → List ℕ → List ℕ
terms k [] = []
terms k (c ∷ f) = plus_joined (terms (suc k) f) (term c k)

-- S55: "the zero polynomial is 0"
abbrev pub or_zero : List ℕ → List ℕ
or_zero [] = 48 ∷ []
or_zero (a ∷ s) = a ∷ s

abbrev pub text : List ℕ → List ℕ
text f = or_zero (terms 0 f)

-- the place of the last word that is kept: the highest nonzero one, and the constant where there is none
abbrev pub last_place : TrueDegree → ℕ
last_place none = 0
last_place (place k) = k

-- S58: "with zero top words dropped; a zero polynomial comes back as the single word 0"
abbrev pub dropped : List ℕ → List ℕ
dropped f = take (suc (last_place (true_degree f))) f

-- S56, S57: "needs 49 words, zeros above", "needs 800 bytes, zeros above": x with zeros up to m words or bytes
abbrev pub padded : ℕ → List ℕ → List ℕ
padded m x = x ++ replicate (m - length x) 0

-- S58: "A text that is read is the text that would be written": f is what s is read as
pub record TextOf (n : ℕ) (s f : List ℕ) : Type 0 where
  pub some : 1 ≤ length f
  pub few : length f ≤ 49
  pub residues : Residues n f
  pub top : f ≡ dropped f
  pub is : s ≡ text f
