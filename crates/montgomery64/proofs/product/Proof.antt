use Rattle.montgomery64.proofs.Rules.{montgomery_rules}
use Rattle.montgomery64.proofs.product.Statement.{statement}
use Rattle.montgomery64.proofs.product.Tie as tie

pub product_spec : {M : Type 1} → statement M
product_spec = tie.close (tie.spec (λ c κs. search montgomery_rules) (λ c κs. search montgomery_rules) (λ c. search montgomery_rules))
