use borrow.Author.Rules.{rules}
use Rattle.reduced_attempt64.proofs.Cases.{attempts}
use Rattle.reduced_attempt64.proofs.arrange.Statement.{statement}
use Rattle.reduced_attempt64.proofs.arrange.Tie as tie

pub arrange_spec : {M : Type 1} → statement M
arrange_spec = tie.close (tie.spec (λ c. search rules) (λ c κs. search rules) (λ c κs. search rules) (λ c κs. search rules)
    (λ c. search rules) (λ c. search attempts))
