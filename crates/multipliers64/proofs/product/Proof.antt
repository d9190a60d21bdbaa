use Rattle.multipliers64.proofs.Rules.{multiplier_rules}
use Rattle.multipliers64.proofs.product.Statement.{statement}
use Rattle.multipliers64.proofs.product.Tie as tie

pub product_spec : {M : Type 1} → statement M
product_spec = tie.close (tie.spec (λ c κs. search multiplier_rules) (λ c. search multiplier_rules))
