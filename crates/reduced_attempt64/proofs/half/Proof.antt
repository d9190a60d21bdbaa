use borrow.Author.Rules.{rules}
use Rattle.reduced_attempt64.proofs.Cases.{attempts}
use Rattle.reduced_attempt64.proofs.half.Statement.{statement}
use Rattle.reduced_attempt64.proofs.half.Tie as tie

pub half_spec : {M : Type 1} → statement M
half_spec = tie.close (tie.spec (λ c κs. search attempts) (λ c κs. search attempts) (λ c. search rules) (λ c. search rules)
    (λ c. search rules) (λ c. (search attempts, search attempts)))
