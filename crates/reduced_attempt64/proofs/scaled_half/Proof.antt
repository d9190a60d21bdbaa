use borrow.Author.Rules.{rules}
use Rattle.reduced_attempt.proofs.Cases.{over_word}
use Rattle.reduced_attempt64.proofs.Cases.{attempts}
use Rattle.reduced_attempt64.proofs.scaled_half.Statement.{statement}
use Rattle.reduced_attempt64.proofs.scaled_half.Tie as tie

pub scaled_half_spec : {M : Type 1} → statement M
scaled_half_spec = tie.close (tie.spec (λ c. search attempts) (λ c. search rules) (λ c. search rules) (λ c κs. search attempts)
    (λ c. search rules) (λ c. record { fits = search over_word }) (λ c. search rules) (λ c. search rules) (λ c. search rules)
    (λ c. search rules) (λ c. search rules) (λ c. (search attempts, search attempts)) (λ c. search rules) (λ c. search rules)
    (λ c. search rules) (λ c. (search attempts, search attempts)) (λ c. search rules) (λ c. search rules) (λ c. search rules)
    (λ c. (search attempts, search attempts)))
