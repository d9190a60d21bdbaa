use Rattle.reduction64.proofs.Rules.{products}
use Rattle.reduction64.proofs.reduce_wide.Statement.{statement}
use Rattle.reduction64.proofs.reduce_wide.Tie as tie

pub reduce_wide_spec : {M : Type 1} → statement M
reduce_wide_spec = tie.close (tie.spec (λ c κs. search products) (λ c κs. search products) (λ c. search products) (λ c κs. search products)
    (λ c. search products))
