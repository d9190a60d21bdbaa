use borrow.Author.Rules.{rules}
use Rattle.reduced_clearing.proofs.UnitSteps.{monics}
use Rattle.reduced_clearing.proofs.take_monic.Statement.{statement}
use Rattle.reduced_clearing.proofs.take_monic.Tie as tie

pub take_monic_spec : {M : Type 1} → statement M
take_monic_spec = tie.close (tie.spec (λ c κs. search rules) (λ c. search rules) (λ c κs. search rules) (λ c. search rules)
    (λ c. (search monics, search monics)) (λ c. search rules) (λ c. (search monics, search monics)))
