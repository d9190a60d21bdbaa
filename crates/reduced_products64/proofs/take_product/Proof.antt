use borrow.Author.Rules.{rules}
use Rattle.reduced_products.proofs.Taking.{takings}
use Rattle.reduced_products64.proofs.take_product.Statement.{statement}
use Rattle.reduced_products64.proofs.take_product.Tie as tie

pub take_product_spec : {M : Type 1} → statement M
take_product_spec = tie.close (tie.spec (λ c κs. search rules) (λ c. search rules) (λ c. search rules) (λ c. search rules)
    (λ c. search takings) (λ c. search rules) (λ c κs. search takings) (λ c. search rules) (λ c. search rules) (λ c κs. search rules)
    (λ c. search rules) (λ c. search takings))
