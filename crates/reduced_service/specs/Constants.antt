-- What the private functions of the reduced resultant ask and promise of two polynomials of sent degree 0.
--
--   HoldsConstant x u      u is the constant x, zeros above
--   ConstantsAsked         what the pair of constants asks
--   ConstantCofactors      D of the constants a and b, with the least cofactors in u and v
use Rattle.std.specs.Prelude.{◌≡◌, List, ℕ, ◌≤◌, length}
use Rattle.definitions.specs.Residues.{GcdWithCofactors, LeastCofactors}
use Rattle.definitions.specs.Polynomials.{coef, constant}

-- "the first L hold the cofactor, zeros above it"
pub record HoldsConstant (x : ℕ) (u : List ℕ) : Type 0 where
  pub at : (k : ℕ) → coef u k ≡ constant x k

-- "Each cofactor buffer must have L words or more": L is 1 for two constants
pub record ConstantsAsked (n : ℕ) (u v : List ℕ) : Type 0 where
  pub modulus : 1 ≤ n
  pub first : 1 ≤ length u
  pub second : 1 ≤ length v

-- "For two polynomials of sent degree 0 the cofactors of D follow the same rule" (02, W7): s in u, and t in v
pub record ConstantCofactors (n a b : ℕ) (u v : List ℕ) (D : ℕ) : Type 0 where
  pub s : ℕ
  pub t : ℕ
  pub cofactors : GcdWithCofactors n a b D s t
  pub least : LeastCofactors n a b D s t
  pub first : HoldsConstant s u
  pub second : HoldsConstant t v
