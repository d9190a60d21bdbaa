use Rattle.resultant_euclid.proofs.Steps.{runs}
use Rattle.resultant_euclid.proofs.rest.Statement.{statement}
use Rattle.resultant_euclid.proofs.rest.Tie as tie

pub rest_spec : {M : Type 1} → statement M
rest_spec = tie.close (tie.spec (λ c κs. search runs) (λ c κs. search runs) (λ c. search runs) (λ c. search runs))
