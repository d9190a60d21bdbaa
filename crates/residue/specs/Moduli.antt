-- Two moduli whose residues can be joined.
--
--   CoprimeModuli m n₁ n₂    n₁ and n₂ are coprime, and their product is below m
use Rattle.std.specs.Prelude.{ℕ, ◌*◌, ◌<◌, ◌≤◌}
use Rattle.definitions.specs.Residues.{Coprime}

-- "two coprime factors" whose product is a word: m is the first number that is no word
pub record CoprimeModuli (m n₁ n₂ : ℕ) : Type 0 where
  pub some₁ : 1 ≤ n₁
  pub some₂ : 1 ≤ n₂
  pub word : n₁ * n₂ < m
  pub coprime : Coprime n₁ n₂
