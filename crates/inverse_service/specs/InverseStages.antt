-- What the stages of an inverse ask.
use Rattle.std.specs.Prelude.{◌≡◌, List, ℕ, ◌+◌, ◌≤◌, length}
use Rattle.definitions.specs.Residues.{Inverse}
use Rattle.definitions.specs.Polynomials.{coef, Residues, UnitPolynomial}
use Rattle.inverse_service.specs.InverseService.{inverse_length}

-- f is a unit polynomial, the inverse of whose constant is i; out has as many words as the inverse, and work as many as f and out
pub record InverseAsked (n i : ℕ) (f out work : List ℕ) : Type 0 where
  pub modulus : 2 ≤ n
  pub some : 1 ≤ length f
  pub residues : Residues n f
  pub unit : UnitPolynomial n f
  pub inverse : Inverse n (coef f 0) i
  pub length_out : length out ≡ inverse_length n f
  pub room : length f + length out ≤ length work
