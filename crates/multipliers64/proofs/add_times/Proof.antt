use Rattle.multipliers64.proofs.Rules.{multiplier_rules}
use Rattle.multipliers64.proofs.add_times.Statement.{statement}
use Rattle.multipliers64.proofs.add_times.Tie as tie

pub add_times_spec : {M : Type 1} → statement M
add_times_spec = tie.close (tie.spec (λ c κs. search multiplier_rules) (λ c κs. search multiplier_rules) (λ c κs. search multiplier_rules) (λ c. search multiplier_rules))
