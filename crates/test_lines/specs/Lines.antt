-- What the contracts of test_lines cite. Assumes nothing: these are definitions.
--
--   Ending          the words at the end of a buffer that are one number, and no more of them
--   FrontWritten    only the first words of a buffer are written
--   hexadecimal c   the value of a digit, `0` to `9` and `a` to `f`; 0 for any other character
--   spelled x s     the number x with the hexadecimal digits s behind it
--   part s at end   the characters of s from place at up to place end, or up to the end of s
use Rattle.std.specs.Prelude.{◌≡◌, cond, List, [], ◌∷◌, ℕ, ◌+◌, ◌-◌, ◌*◌, ◌≤◌, ◌<◌, ltb, leb, length, get_or, take, drop}

-- the last r words of w are x, and the word before them is not
pub record Ending (x : ℕ) (w : List ℕ) (r : ℕ) : Type 0 where
  pub most : r ≤ length w
  pub last : (k : ℕ) → length w ≤ k + r → k < length w → get_or w k 0 ≡ x
  pub next : (k : ℕ) → k + r + 1 ≡ length w → get_or w k 0 ≡ x → ⊥

-- the words from r on are as they were
pub record FrontWritten (w w' : List ℕ) (r : ℕ) : Type 0 where
  pub most : r ≤ length w
  pub same : length w' ≡ length w
  pub high : (k : ℕ) → r ≤ k → get_or w' k 0 ≡ get_or w k 0

abbrev pub hexadecimal : ℕ → ℕ
hexadecimal c = cond (ltb c 48) 0 (cond (leb c 57) (c - 48) (cond (ltb c 97) 0 (cond (leb c 102) (c - 97 + 10) 0)))

unfoldable pub spelled : ℕ → List ℕ → ℕ
spelled x [] = x
spelled x (c ∷ s) = spelled (x * 16 + hexadecimal c) s

abbrev pub part : List ℕ → ℕ → ℕ → List ℕ
part s at end = take (end - at) (drop at s)
