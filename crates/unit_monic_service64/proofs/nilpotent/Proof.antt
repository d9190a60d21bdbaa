use borrow.Author.Rules.{rules}
use Rattle.unit_monic_service.proofs.Tests.{testing}
use Rattle.unit_monic_service64.proofs.nilpotent.Statement.{statement}
use Rattle.unit_monic_service64.proofs.nilpotent.Tie as tie

pub nilpotent_spec : {M : Type 1} → statement M
nilpotent_spec = tie.close (tie.spec (λ c κs. search rules) (λ c. search rules) (λ c. search rules) (λ c. search rules)
    (λ c. search testing) (λ c. search testing) (λ c. search testing))
