use Rattle.reduction64.proofs.Rules.{products}
use Rattle.reduction64.proofs.product.Statement.{statement}
use Rattle.reduction64.proofs.product.Tie as tie

pub product_spec : {M : Type 1} → statement M
product_spec = tie.close (tie.spec (λ c κs. search products) (λ c κs. search products) (λ c κs. search products) (λ c. search products)
    (λ c κs. search products) (λ c. search products))
