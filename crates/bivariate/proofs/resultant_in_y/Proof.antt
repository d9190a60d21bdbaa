use Rattle.bivariate.proofs.Interpolating.{interpolations}
use Rattle.bivariate.proofs.resultant_in_y.Statement.{statement}
use Rattle.bivariate.proofs.resultant_in_y.Tie as tie

pub resultant_in_y_spec : {M : Type 1} → statement M
resultant_in_y_spec = tie.close (tie.spec (λ c κs. search interpolations) (λ c κs. search interpolations) (λ c κs. search interpolations)
    (λ c. search interpolations) (λ c. search interpolations) (λ c. (search interpolations, search interpolations)))
