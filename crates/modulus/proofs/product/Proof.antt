use Rattle.modulus.proofs.Valuing.{answers}
use Rattle.modulus.proofs.product.Statement.{statement}
use Rattle.modulus.proofs.product.Tie as tie

pub product_spec : {M : Type 1} → statement M
product_spec = tie.close (tie.spec (λ c κs. search answers) (λ c. search answers) (λ c. search answers) (λ c κs. search answers)
    (λ c. search answers))
