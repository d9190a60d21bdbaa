use Rattle.multipliers64.proofs.Rules.{multiplier_rules}
use Rattle.multipliers64.proofs.sum_of.Statement.{statement}
use Rattle.multipliers64.proofs.sum_of.Tie as tie

pub sum_of_spec : {M : Type 1} → statement M
sum_of_spec = tie.close (tie.spec (λ c κs. search multiplier_rules) (λ c κs. search multiplier_rules) (λ c κs. search multiplier_rules) (λ c κs. search multiplier_rules)
    (λ c κs. search multiplier_rules) (λ c. search multiplier_rules))
