-- Characters as one number of as many bytes, the first lowest.
--
--   Code s i x       x is the character at place i of s
--   joined t         the characters t as one number
--   Bytes t          each of them is below 256
--   Joined t x       x is that number, and they are
--   packed_of x      the number that eight digits spell whose values are the bytes of x
use Rattle.std.specs.Prelude.{◌≡◌, List, [], ◌∷◌, ℕ, ◌+◌, ◌*◌, ◌/◌, ◌%◌, ◌<◌, get_or}

pub record Code (s : List ℕ) (i x : ℕ) : Type 0 where
  pub is : x ≡ get_or s i 0
  pub below : x < 256

abbrev pub joined : List ℕ → ℕ
joined [] = 0
joined (c ∷ t) = joined t * 256 + c

abbrev pub Bytes : List ℕ → Type 0
Bytes [] = Unit
Bytes (c ∷ t) = (c < 256) × Bytes t

pub record Joined (t : List ℕ) (x : ℕ) : Type 0 where
  pub is : x ≡ joined t
  pub bytes : Bytes t

-- two values in each second byte
abbrev pairs_of : ℕ → ℕ
pairs_of x = x * 16 + x / 256

abbrev pub packed_of : ℕ → ℕ
packed_of x =
    pairs_of x % 256 * 16777216 + pairs_of x / 65536 % 256 * 65536 + pairs_of x / 4294967296 % 256 * 256
    + pairs_of x / 281474976710656 % 256
