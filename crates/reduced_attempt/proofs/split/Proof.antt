use borrow.Author.Rules.{rules}
use Rattle.reduced_attempt.proofs.Cases.{attempts}
use Rattle.reduced_attempt.proofs.split.Statement.{statement}
use Rattle.reduced_attempt.proofs.split.Tie as tie

pub split_spec : {M : Type 1} → statement M
split_spec = tie.close (tie.spec (λ c κs. search rules) (λ c. search rules) (λ c. search rules) (λ c. search rules) (λ c. search attempts)
    (λ c. search attempts) (λ c. search attempts))
