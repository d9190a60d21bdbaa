-- A row of Sylvester's matrix of words.
--
--   entry d f i j     row i of f in degree d, highest coefficient first, i columns to the right: at column j
use Rattle.std.specs.Prelude.{List, ℕ, ℤ, pos}
use Rattle.definitions.specs.Expansions.{integers, entry_of}
use Rattle.definitions.specs.Polynomials.{coef}

abbrev pub entry : ℕ → List ℕ → ℕ → ℕ → ℤ
entry d f = entry_of integers d (λ k. pos (coef f k))
