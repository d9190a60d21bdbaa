use Rattle.multipliers64.proofs.Rules.{multiplier_rules}
use Rattle.multipliers64.proofs.times.Statement.{statement}
use Rattle.multipliers64.proofs.times.Tie as tie

pub times_spec : {M : Type 1} → statement M
times_spec = tie.close (tie.spec (λ c κs. search multiplier_rules) (λ c. search multiplier_rules) (λ c κs. search multiplier_rules) (λ c. search multiplier_rules))
