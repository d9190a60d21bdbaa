use borrow.Author.Rules.{rules}
use Rattle.reduced_attempt64.proofs.Cases.{attempts}
use Rattle.reduced_attempt64.proofs.attempt_over.Statement.{statement}
use Rattle.reduced_attempt64.proofs.attempt_over.Tie as tie

pub attempt_over_spec : {M : Type 1} → statement M
attempt_over_spec = tie.close (tie.spec (λ c. search rules) (λ c. search rules) (λ c. search rules) (λ c. search rules) (λ c. search rules)
    (λ c. search rules) (λ c. search rules) (λ c κs. search rules) (λ c. search rules) (λ c κs. (search attempts, search attempts))
    (λ c. search rules) (λ c. search rules) (λ c. search rules) (λ c. search rules) (λ c. search rules)
    (λ c. (search attempts, search attempts)) (λ c. search rules) (λ c. (search attempts, search attempts)) (λ c. search rules)
    (λ c. (search attempts, search attempts)))
