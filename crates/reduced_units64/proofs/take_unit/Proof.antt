use borrow.Author.Rules.{rules}
use Rattle.reduced_units.proofs.UnitFactor.{factorings}
use Rattle.reduced_units64.proofs.take_unit.Statement.{statement}
use Rattle.reduced_units64.proofs.take_unit.Tie as tie

pub take_unit_spec : {M : Type 1} → statement M
take_unit_spec = tie.close (tie.spec (λ c κs. search factorings) (λ c. search rules) (λ c. search rules) (λ c. search rules)
    (λ c. search rules) (λ c. search rules) (λ c. search rules) (λ c. search rules) (λ c. search rules) (λ c κs. search factorings)
    (λ c. search rules) (λ c. search rules) (λ c. search factorings) (λ c κs. search factorings) (λ c. search rules)
    (λ c. search factorings))
