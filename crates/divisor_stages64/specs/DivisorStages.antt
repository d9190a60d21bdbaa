-- What the clearing of a content promises in words of 64 bits: what divisor_stages/specs/DivisorStages says, by the record of this width.
--
--   Clears    D; two coprime divisors of n; or a content c and a B with a leading unit modulo n / c
use Rattle.std.specs.Prelude.{List, ℕ}
use Rattle.reduction64.specs.declared.Reciprocal.{Reciprocal}
use Rattle.reduction64.specs.Moduli.{Ready}
use Rattle.divisor_stages.specs.declared.Clearing.{Clearing}
use Rattle.divisor_stages.specs.DivisorStages.{ClearsBy}

abbrev pub Clears : ℕ → ℕ → ℕ → ℕ → ℕ → List ℕ → List ℕ → Clearing ℕ Reciprocal → Type 0
Clears = ClearsBy Reciprocal Ready (λ m. m.n)
