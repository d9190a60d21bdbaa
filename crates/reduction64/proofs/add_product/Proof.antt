use Rattle.reduction64.proofs.Rules.{sums}
use Rattle.reduction64.proofs.add_product.Statement.{statement}
use Rattle.reduction64.proofs.add_product.Tie as tie

pub add_product_spec : {M : Type 1} → statement M
add_product_spec = tie.close (tie.spec (λ c κs. search sums) (λ c κs. search sums) (λ c κs. search sums) (λ c. search sums))
