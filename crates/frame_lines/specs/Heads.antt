-- The head of a line: what its length and its first 14 characters say.
--
--   KindRead s k          s can be a frame by its length and its first two characters, which say the kind k
--   Fields s k n d e      s is a frame if the characters after the first 14 are digits, with these numbers at its head
--   HeadOf s h            h is what the head of s says: that of a frame, or nothing where s is none
--   WordsRead             what reading the words comes to
use Rattle.std.specs.Prelude.{◌≡◌, Bool, true, false, List, ℕ, Option, Some, None, ◌+◌, ◌*◌, ◌≤◌, length, take, drop}
use Rattle.hexadecimal.specs.Hexadecimal.{all_digits}
use Rattle.frame_lines.specs.declared.Frame.{Frame}
use Rattle.frame_lines.specs.Kinds.{kind_number}
use Rattle.frame_lines.specs.FrameLines.{kind_of, modulus_of, first_degree, second_degree, words_of, is_frame}

pub record Fields (s : List ℕ) (k n d e : ℕ) : Type 0 where
  pub kind : k ≡ kind_of s
  pub known : (1 ≤ k) × (k ≤ 2)
  pub modulus : n ≡ modulus_of s
  pub first : d ≡ first_degree s
  pub second : e ≡ second_degree s
  pub short : length s ≤ 798
  pub fits : length s ≡ 14 + 8 * (d + 1 + (e + 1))
  pub frame : is_frame s ≡ all_digits (drop 14 s)

pub record KindRead (s : List ℕ) (k : ℕ) : Type 0 where
  pub digits : all_digits (take 2 s) ≡ true
  pub is : k ≡ kind_of s
  pub known : (1 ≤ k) × (k ≤ 2)
  pub long : 14 ≤ length s
  pub short : length s ≤ 798

abbrev pub HeadOf : List ℕ → Option Frame → Type 0
HeadOf s (Some f) = Fields s (kind_number f.kind) f.n f.d f.e
HeadOf s None = is_frame s ≡ false

-- what reading count words comes to: whether they are digits, and the words w if they are
pub record WordsRead (s : List ℕ) (count : ℕ) (w : List ℕ) (r : Bool) : Type 0 where
  pub digits : r ≡ all_digits (drop 14 s)
  pub words : r ≡ true → take count w ≡ words_of count (drop 14 s)
