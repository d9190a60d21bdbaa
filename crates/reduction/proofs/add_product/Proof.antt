use Rattle.reduction.proofs.Reducing.{reducing}
use Rattle.reduction.proofs.add_product.Statement.{statement}
use Rattle.reduction.proofs.add_product.Tie as tie

pub add_product_spec : {M : Type 1} → statement M
add_product_spec = tie.close (tie.spec (λ c. search reducing) (λ c. search reducing) (λ c κs. search reducing) (λ c. search reducing))
