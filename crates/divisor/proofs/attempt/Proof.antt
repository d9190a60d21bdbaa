use borrow.Author.Rules.{rules}
use Rattle.divisor.proofs.Cases.{attempts}
use Rattle.divisor.proofs.attempt.Statement.{statement}
use Rattle.divisor.proofs.attempt.Tie as tie

pub attempt_spec : {M : Type 1} → statement M
attempt_spec = tie.close (tie.spec (λ c κs. search rules) (λ c. search rules) (λ c. (search attempts, search rules)) (λ c κs. search rules)
    (λ c. search rules) (λ c. search rules))
