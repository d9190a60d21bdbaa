-- What the stages of unit times monic ask.
use Rattle.std.specs.Prelude.{◌≡◌, List, ℕ, ◌+◌, ◌≤◌, length}
use Rattle.definitions.specs.Polynomials.{Residues}
use Rattle.window_factor.specs.Factors.{LeadingUnit}

-- coefficient t of f has the inverse i and those above it are nilpotent; u and h have as many words as f, and work as many as f and
-- both results
pub record FactorsAsked (n t i : ℕ) (f u h work : List ℕ) : Type 0 where
  pub modulus : 2 ≤ n
  pub residues : Residues n f
  pub lead : LeadingUnit n t i f
  pub length_u : length u ≡ length f
  pub length_h : length h ≡ length f
  pub room : length f + (length f + length f) ≤ length work
