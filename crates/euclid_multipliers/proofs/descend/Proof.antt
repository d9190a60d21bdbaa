use Rattle.euclid_multipliers.specs.StepsInBuffer.{Descending}
use Rattle.euclid_multipliers.proofs.Descents.{descents}
use Prim.Native.Nat.{◌+◌}
use borrow.Author.Rules.{rules}
use Rattle.euclid_multipliers.proofs.descend.Statement.{statement}
use Rattle.euclid_multipliers.proofs.descend.Tie as tie

pub descend_spec : {M : Type 1} → statement M
descend_spec = tie.close (tie.spec (λ w₀ m h y₀ j₀ w y j. Descending m h y₀ w₀ j y w) (λ w₀ m h y₀ j₀ w y j. y.d + y.e)
    (λ c. search descents) (λ c κs. search rules) (λ c. search rules) (λ c. search rules) (λ c. search rules) (λ c κs. search descents)
    (λ c. search rules) (λ c. search rules) (λ c. search descents) (λ c. search rules) (λ c. search descents))
