-- "Who can cause a refusal" (S22, S29): the tests as Booleans, and a service's status as the number of the first that applies.
-- What depends on the width of the words is a parameter.
--
--   Width, narrow              the bound of n and the working words asked for; words of 32 bits
--   bad_modulus_of, bad_length_of, all_below_of, short     the tests
--   Tested                     a refusal's number, and whether its condition applies
--   first_refusal t            the number of the first in t that applies, 0 where none does
--   refusals_one, refusals_of_pair      1, 2 and 3 of one polynomial and of two, in their order
--   answered s x               the value of a service: x where the status s is 0, else 0
--   left s w, replaced s x w   working words and result words after a call of status s
use Rattle.std.specs.Prelude.{Bool, true, false, cond, not, List, [], ◌∷◌, ◌++◌, ℕ, zero, suc, ltb, eqb, length, drop, replicate}

-- S3, S27: moduli are below `bound`; "Working buffer: at least" `working` words
pub record Width : Type 0 where
  pub bound : ℕ
  pub working : ℕ

-- S2, S3, S27: "Modulus n: 2 to 4294967295." "Working buffer: at least 8192 words."
abbrev pub narrow : Width
narrow = record { bound = 4294967296; working = 8192 }

-- S29: "1: n is 0 or 1", or at the width's bound or above
abbrev pub bad_modulus_of : Width → ℕ → Bool
bad_modulus_of W n = cond (ltb n 2) true (not (ltb n W.bound))

-- S29: "2: a polynomial has no word or more than 49"
abbrev pub bad_length_of : {A : Type 0} → List A → Bool
bad_length_of f = cond (eqb (length f) 0) true (ltb 49 (length f))

-- S29: "3: a word of a polynomial … is n or more": false where there is such a word
unfoldable pub all_below_of : ℕ → List ℕ → Bool
all_below_of n [] = true
all_below_of n (x ∷ f) = cond (ltb x n) (all_below_of n f) false

-- S29: "6: a result buffer is too short", "7: the working buffer is too short": it has l words and needs m
abbrev pub short : ℕ → ℕ → Bool
short l m = ltb l m

abbrev pub Tested : Type 0
Tested = ℕ × Bool

-- a, or b where a is 0
abbrev pub first_of : ℕ → ℕ → ℕ
first_of zero b = b
first_of (suc a) b = suc a

-- S22: "Then 1, 2, 3, 4, 5, 6, 7 in this order"
abbrev pub first_refusal : List Tested → ℕ
first_refusal [] = 0
first_refusal (t ∷ r) = first_of (cond t.1 t.0 0) (first_refusal r)

abbrev pub refusals_one : Width → ℕ → List ℕ → List Tested
refusals_one W n f = (1, bad_modulus_of W n) ∷ (2, bad_length_of f) ∷ (3, not (all_below_of n f)) ∷ []

-- S29: "within a number the first polynomial before the second"
abbrev pub refusals_of_pair : Width → ℕ → List ℕ → List ℕ → List Tested
refusals_of_pair W n f g =
    (1, bad_modulus_of W n) ∷ (2, bad_length_of f) ∷ (2, bad_length_of g) ∷ (3, not (all_below_of n f)) ∷ (3, not (all_below_of n g)) ∷ []

-- S23: "Each returns its number and value 0"
abbrev pub answered : ℕ → ℕ → ℕ
answered zero x = x
answered (suc s) x = 0

-- S24, S23: "After an answered call the working buffer it was lent holds zeros." "every lent buffer is left as found"
abbrev pub left : ℕ → List ℕ → List ℕ
left zero w = replicate (length w) 0
left (suc s) w = w

-- S25: the result x in the first words of the buffer w: "Words beyond these lengths are unchanged"
abbrev pub replaced : ℕ → List ℕ → List ℕ → List ℕ
replaced zero x w = x ++ drop (length x) w
replaced (suc s) x w = w
