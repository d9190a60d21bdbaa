-- The stages of a division: the quotient's words from the top down, then those of the remainder.
--
--   QuotientAsked             what both stages ask
--   QuotientWords n f g q     the words of q, and no others, make the coefficients of q g from place e on those of f
--   difference n a x          a - x modulo n
use Rattle.std.specs.Prelude.{◌≡◌, List, ℕ, ◌+◌, ◌-◌, ◌*◌, ◌%◌, ◌<◌, ◌≤◌, length, drop}
use Rattle.definitions.specs.Polynomials.{coef, deg, convolve, quotient_length, Residues}

-- the top word of g has the inverse i, and q has as many words as the quotient
pub record QuotientAsked (n i : ℕ) (f g q : List ℕ) : Type 0 where
  pub modulus : 1 ≤ n
  pub some_f : 1 ≤ length f
  pub some_g : 1 ≤ length g
  pub length_q : length q ≡ quotient_length (deg f) (deg g)
  pub inverse : (i * coef g (deg g)) % n ≡ 1 % n

-- word j of q is fixed by coefficient e + j of f
pub record QuotientWords (n : ℕ) (f g q : List ℕ) : Type 0 where
  pub length_q : length q ≡ quotient_length (deg f) (deg g)
  pub residues : Residues n q
  pub short : deg f < deg g → coef q 0 ≡ 0
  pub equation : (j : ℕ) → convolve (coef (drop j q)) (coef g) (deg g) % n ≡ coef f (deg g + j) % n

abbrev pub difference : ℕ → ℕ → ℕ → ℕ
difference n a x = (a + (n - x % n)) % n
