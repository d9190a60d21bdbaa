use Rattle.reduction64.proofs.Rules.{products}
use Rattle.reduction64.proofs.scaled.Statement.{statement}
use Rattle.reduction64.proofs.scaled.Tie as tie

pub scaled_spec : {M : Type 1} → statement M
scaled_spec = tie.close (tie.spec (λ c κs. search products) (λ c κs. search products) (λ c κs. search products) (λ c κs. search products)
    (λ c κs. search products) (λ c. search products))
