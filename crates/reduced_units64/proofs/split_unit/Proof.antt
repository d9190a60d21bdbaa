use borrow.Author.Rules.{rules}
use Rattle.reduced_units.proofs.Splitting.{splittings}
use Rattle.reduced_units64.proofs.split_unit.Statement.{statement}
use Rattle.reduced_units64.proofs.split_unit.Tie as tie

pub split_unit_spec : {M : Type 1} → statement M
split_unit_spec = tie.close (tie.spec (λ c. search rules) (λ c. search rules) (λ c κs. search rules) (λ c. search rules) (λ c. search rules)
    (λ c. search rules) (λ c. search rules) (λ c. search rules) (λ c. search rules) (λ c. search rules) (λ c. search rules)
    (λ c κs. (search splittings, search splittings)) (λ c. search rules) (λ c. search rules) (λ c κs. search rules) (λ c. search rules)
    (λ c. search splittings))
