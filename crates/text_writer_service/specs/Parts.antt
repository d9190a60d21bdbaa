-- Characters written into a buffer from a place on.
--
--   Put s at r o o'     the buffer o became o': s stands in it from place at on, and r is the place after s
--   Room f o            the words f have room in the buffer o
--   plus at, added at c k     what is written for the next term, after at characters
use Rattle.std.specs.Prelude.{◌≡◌, List, [], ◌∷◌, ◌++◌, ℕ, zero, suc, ◌+◌, ◌≤◌, length, take, drop}
use Rattle.text_notation.specs.Notation.{term}

pub record Put (s : List ℕ) (at r : ℕ) (o o' : List ℕ) : Type 0 where
  pub end : r ≡ at + length s
  pub is : o' ≡ take at o ++ (s ++ drop r o)

pub record Room (f o : List ℕ) : Type 0 where
  pub few : length f ≤ 49
  pub bytes : 800 ≤ length o

abbrev pub plus : ℕ → List ℕ
plus zero = []
plus (suc at) = 43 ∷ []

abbrev pub added : ℕ → ℕ → ℕ → List ℕ
added at zero k = []
added at (suc c) k = plus at ++ term (suc c) k
