-- Products of two windows taken from a third. The factors are the lp words at p and the lq words at q of one buffer w; their product, of
-- lp + lq - 1 words, is taken from the words at dst.
--
--   ProductAsked n p lp q lq dst w    the factors have words, and these and the product's words stand in the buffer
--   Factors n p lp q lq dst w    the factors are apart from the words at dst; all of them residues
--   FactorsModulo n t p lp q lq dst w    the same, with a monic polynomial of degree t at 0, before dst
--   Subtracted n p lp q lq dst w w'    the words at dst have lost the product
--   MonicAtZero n t w            the monic polynomial of degree t at 0 of a stage's window
--   TakenFrom n t p lp q lq dst l w w'    the words at dst have lost the product and a multiple of that polynomial: l words are left
use Rattle.std.specs.Prelude.{◌≡◌, List, ℕ, ◌+◌, ◌-◌, ◌*◌, ◌%◌, ◌<◌, ◌≤◌, length, get_or}
use Rattle.definitions.specs.Polynomials.{Divided}
use Rattle.windows.specs.Window.{piece, Below, Around, Apart}
use Rattle.law_multipliers.specs.Multipliers.{Taken}

-- two factors of at least one word each, and the words that lose their product, stand in the buffer
pub record ProductAsked (n p lp q lq dst : ℕ) (w : List ℕ) : Type 0 where
  pub modulus : 1 ≤ n
  pub some_first : 1 ≤ lp
  pub some_second : 1 ≤ lq
  pub first : p + lp ≤ length w
  pub second : q + lq ≤ length w
  pub product : dst + (lp + lq - 1) ≤ length w

-- no word of a factor is one of those that lose the product, and what is read and written are residues
pub record Factors (n p lp q lq dst : ℕ) (w : List ℕ) : Type 0 where
  pub first : Below n p lp w
  pub second : Below n q lq w
  pub product : Below n dst (lp + lq - 1) w
  pub apart_first : Apart p lp dst (lp + lq - 1)
  pub apart_second : Apart q lq dst (lp + lq - 1)

-- what stood at dst is the product and what stands there now
pub record Subtracted (n p lp q lq dst : ℕ) (w w' : List ℕ) : Type 0 where
  pub around : Around dst (lp + lq - 1) w w'
  pub below : Below n dst (lp + lq - 1) w'
  pub divided : Divided n (piece w dst (lp + lq - 1)) (piece w q lq) (piece w p lp) (piece w' dst (lp + lq - 1))

-- a stage's window begins with a monic polynomial of degree t
pub record MonicAtZero (n t : ℕ) (w : List ℕ) : Type 0 where
  pub lead : get_or w t 0 ≡ 1
  pub below : Below n 0 (t + 1) w

-- the product is taken modulo the monic polynomial at 0, which no word at dst is part of
pub record FactorsModulo (n t p lp q lq dst : ℕ) (w : List ℕ) : Type 0 where
  pub factors : Factors n p lp q lq dst w
  pub degree : 1 ≤ t
  pub after : t + 1 ≤ dst
  pub monic : MonicAtZero n t w

-- what stood at dst is the product, a multiple of the monic polynomial at 0, and what stands there now
pub record TakenFrom (n t p lp q lq dst l : ℕ) (w w' : List ℕ) : Type 0 where
  pub around : Around dst (lp + lq - 1) w w'
  pub below : Below n dst (lp + lq - 1) w'
  pub within : l ≤ t
  pub most : l ≤ lp + lq - 1
  pub some : 1 ≤ l
  pub full : l < t → l ≡ lp + lq - 1
  pub zero : (k : ℕ) → l ≤ k → k < lp + lq - 1 → get_or w' (dst + k) 0 ≡ 0
  pub taken : Taken n (piece w 0 (t + 1)) (piece w q lq) (piece w p lp) (piece w dst (lp + lq - 1)) (piece w' dst (lp + lq - 1))
