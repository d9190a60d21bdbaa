use borrow.Author.Rules.{rules}
use Rattle.reduced_attempt.proofs.Cases.{attempts}
use Rattle.reduced_attempt.proofs.attempt.Statement.{statement}
use Rattle.reduced_attempt.proofs.attempt.Tie as tie

pub attempt_spec : {M : Type 1} → statement M
attempt_spec = tie.close (tie.spec (λ c κs. search rules) (λ c κs. search rules) (λ c κs. search rules) (λ c. search rules)
    (λ c. search rules) (λ c. search rules) (λ c. (search attempts, search attempts)) (λ c κs. (search attempts, search attempts))
    (λ c. search rules) (λ c. search rules) (λ c. search rules) (λ c. (search attempts, search attempts)))
