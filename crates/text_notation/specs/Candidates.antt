-- The only polynomial that a text can be the text of, and the test of refusal 17: whether it is. The characters are read one by one
-- with no eye to their order; that they are the text of what was read is asked afterwards.
--
--   number_after_of, coefficient_after_of     the number and the coefficient that are being read, after one more character
--   stored c x w                        the words w with the term that was read
--   gathered G s c x w                  the words w with the terms of s; G x stands for the number x, which may be too large for a word
--   candidate s                         the 49 words that s comes to
--   same_text_of s t                       whether s and t are equal
--   is_text_of n s g, is_text n s       whether s is the text of the words g, and of any polynomial over Z/nZ
use Rattle.std.specs.Prelude.{Bool, true, false, cond, ◌&&◌, List, [], ◌∷◌, ℕ, zero, suc, ◌+◌, ◌*◌, ◌%◌, eqb, set, replicate}
use Rattle.refusals.specs.Refusals.{all_below_of}
use Rattle.text_notation.specs.Notation.{text}

-- a plus sign, a star and a circumflex begin a number; `x` alone is power 1; any other character b counts as a digit
abbrev pub number_after_of : (ℕ → ℕ) → ℕ → ℕ → ℕ
number_after_of G b x =
    cond (eqb b 43) 0 (cond (eqb b 42) 0 (cond (eqb b 94) 0 (cond (eqb b 120) 1 (G (x * 10 + b % 16)))))

-- the number before a star is a coefficient
abbrev pub coefficient_after_of : ℕ → ℕ → ℕ → ℕ
coefficient_after_of b c x = cond (eqb b 43) 0 (cond (eqb b 42) x c)

-- coefficient c of power x, or the number x alone
abbrev pub stored : ℕ → ℕ → List ℕ → List ℕ
stored zero x w = set w 0 x
stored (suc c) x w = set w x (suc c)

unfoldable pub gathered : (ℕ → ℕ) → List ℕ → ℕ → ℕ → List ℕ → List ℕ
gathered G [] c x w = stored c x w
gathered G (b ∷ s) c x w = gathered G s (coefficient_after_of b c x) (number_after_of G b x) (cond (eqb b 43) (stored c x w) w)

abbrev pub candidate : List ℕ → List ℕ
candidate s = gathered (λ (y : ℕ). y) s 0 0 (replicate 49 0)

unfoldable pub same_text_of : List ℕ → List ℕ → Bool
same_text_of [] [] = true
same_text_of [] (b ∷ t) = false
same_text_of (a ∷ s) [] = false
same_text_of (a ∷ s) (b ∷ t) = cond (eqb a b) (same_text_of s t) false

-- S55, S58: "Coefficients are decimal from 1 to n - 1"; "A text that is read is the text that would be written": s is the text of the words
-- g
abbrev pub is_text_of : ℕ → List ℕ → List ℕ → Bool
is_text_of n s g = all_below_of n g && same_text_of s (text g)

abbrev pub is_text : ℕ → List ℕ → Bool
is_text n s = is_text_of n s (candidate s)
