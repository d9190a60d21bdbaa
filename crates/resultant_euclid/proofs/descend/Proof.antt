use Rattle.resultant_euclid.proofs.Steps.{runs}
use Rattle.resultant_euclid.proofs.descend.Statement.{statement}
use Rattle.resultant_euclid.proofs.descend.Tie as tie

pub descend_spec : {M : Type 1} → statement M
descend_spec = tie.close (tie.spec (λ c κs. search runs) (λ c κs. search runs) (λ c. search runs) (λ c. search runs))
