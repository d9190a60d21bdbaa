use Rattle.montgomery64.proofs.Rules.{montgomery_rules}
use Rattle.montgomery64.proofs.add_product.Statement.{statement}
use Rattle.montgomery64.proofs.add_product.Tie as tie

pub add_product_spec : {M : Type 1} → statement M
add_product_spec = tie.close (tie.spec (λ c κs. search montgomery_rules) (λ c κs. search montgomery_rules) (λ c κs. search montgomery_rules) (λ c κs. search montgomery_rules)
    (λ c. search montgomery_rules) (λ c. search montgomery_rules) (λ c. search montgomery_rules))
