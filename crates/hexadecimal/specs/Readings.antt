-- What a text reads as: the number that its digits spell, or none where a character is no digit.
--
--   if_digits b x    the number x where b is true
--   reading_of s     what the text s reads as
use Rattle.std.specs.Prelude.{Bool, true, false, List, ℕ, Option, Some, None}
use Rattle.hexadecimal.specs.Hexadecimal.{all_digits, number_of}

abbrev pub if_digits : Bool → ℕ → Option ℕ
if_digits true x = Some x
if_digits false x = None

abbrev pub reading_of : List ℕ → Option ℕ
reading_of s = if_digits (all_digits s) (number_of s)
