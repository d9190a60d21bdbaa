use borrow.Author.Rules.{rules}
use Rattle.reduced_units.proofs.OverUnits.{overs}
use Rattle.reduced_units64.proofs.over_unit.Statement.{statement}
use Rattle.reduced_units64.proofs.over_unit.Tie as tie

pub over_unit_spec : {M : Type 1} → statement M
over_unit_spec = tie.close (tie.spec (λ c. search rules) (λ c κs. search rules) (λ c κs. search overs) (λ c κs. search rules)
    (λ c. search rules) (λ c. search overs))
