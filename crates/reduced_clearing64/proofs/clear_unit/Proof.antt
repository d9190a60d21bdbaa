use borrow.Author.Rules.{rules}
use Rattle.window_factor.proofs.Cases.{highest}
use Rattle.reduced_clearing.proofs.UnitSteps.{units}
use Rattle.reduced_clearing64.proofs.clear_unit.Statement.{statement}
use Rattle.reduced_clearing64.proofs.clear_unit.Tie as tie

pub clear_unit_spec : {M : Type 1} → statement M
clear_unit_spec = tie.close (tie.spec (λ c. search rules) (λ c. search rules) (λ c. search rules) (λ c. search rules) (λ c. search rules)
    (λ c κs. search rules) (λ c. search rules) (λ c κs. search (units, highest)) (λ c. search rules) (λ c. search rules) (λ c. search rules)
    (λ c. search rules) (λ c. search rules) (λ c. (search (units, highest), search units)) (λ c. search rules)
    (λ c. (search (units, highest), search units)))
