use borrow.Author.Rules.{rules}
use Rattle.reduced_attempt.proofs.Cases.{attempts}
use Rattle.reduced_attempt.proofs.core_over.Statement.{statement}
use Rattle.reduced_attempt.proofs.core_over.Tie as tie

pub core_over_spec : {M : Type 1} → statement M
core_over_spec = tie.close (tie.spec (λ c κs. search rules) (λ c. search rules) (λ c. search rules) (λ c. search rules) (λ c. search rules)
    (λ c. search rules) (λ c. (search attempts, search attempts)) (λ c. search rules) (λ c. search rules) (λ c. search rules)
    (λ c. (search attempts, search attempts)))
