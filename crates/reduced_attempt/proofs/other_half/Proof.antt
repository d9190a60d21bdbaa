use borrow.Author.Rules.{rules}
use Rattle.reduced_attempt.proofs.Cases.{attempts}
use Rattle.reduced_attempt.proofs.other_half.Statement.{statement}
use Rattle.reduced_attempt.proofs.other_half.Tie as tie

pub other_half_spec : {M : Type 1} → statement M
other_half_spec = tie.close (tie.spec (λ c κs. (search attempts, search attempts)) (λ c. search rules) (λ c. search rules)
    (λ c κs. (search attempts, search attempts)) (λ c. search rules) (λ c. search rules) (λ c. search rules) (λ c. search rules)
    (λ c. (search attempts, search attempts)) (λ c. search rules) (λ c. search rules) (λ c. search rules)
    (λ c. (search attempts, search attempts)) (λ c. search rules) (λ c. search rules) (λ c. search rules)
    (λ c. (search attempts, search attempts)))
