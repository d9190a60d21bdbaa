-- Lower-case hexadecimal, as frames and answer lines are written in it. A text is a list of characters by their codes.
--
--   digit_of c            the value of the digit c, 16 where c is no digit
--   all_digits s          whether every character of s is a digit
--   number_of s           the number that the digits s spell, highest first
--   character_of x        the digit whose value is x
--   digits_of k x         x in k digits
use Rattle.std.specs.Prelude.{Bool, true, cond, ◌&&◌, List, [], ◌∷◌, ◌++◌, ℕ, zero, suc, ◌+◌, ◌-◌, ◌*◌, ◌/◌, ◌%◌, ltb}

-- S65: "lower-case hexadecimal": the codes of 0-9 are 48 to 57, those of a-f are 97 to 102
abbrev pub digit_of : ℕ → ℕ
digit_of c = cond (ltb c 48) 16 (cond (ltb c 58) (c - 48) (cond (ltb c 97) 16 (cond (ltb c 103) (c - 87) 16)))

unfoldable pub all_digits : List ℕ → Bool
all_digits [] = true
all_digits (c ∷ s) = ltb (digit_of c) 16 && all_digits s

-- the number that x and then the digits s spell
unfoldable pub spelled : ℕ → List ℕ → ℕ
spelled x [] = x
spelled x (c ∷ s) = spelled (x * 16 + digit_of c) s

abbrev pub number_of : List ℕ → ℕ
number_of s = spelled 0 s

abbrev pub character_of : ℕ → ℕ
character_of x = cond (ltb x 10) (48 + x) (87 + x)

unfoldable pub digits_of : ℕ → ℕ → List ℕ
digits_of zero x = []
digits_of (suc k) x = digits_of k (x / 16) ++ character_of (x % 16) ∷ []
