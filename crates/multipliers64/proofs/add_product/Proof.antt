use Rattle.multipliers64.proofs.Rules.{multiplier_rules}
use Rattle.multipliers64.proofs.add_product.Statement.{statement}
use Rattle.multipliers64.proofs.add_product.Tie as tie

pub add_product_spec : {M : Type 1} → statement M
add_product_spec = tie.close (tie.spec (λ c κs. search multiplier_rules) (λ c. search multiplier_rules))
