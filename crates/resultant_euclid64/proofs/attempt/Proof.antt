use Rattle.resultant_euclid.proofs.Steps.{runs}
use Rattle.resultant_euclid64.proofs.attempt.Statement.{statement}
use Rattle.resultant_euclid64.proofs.attempt.Tie as tie

pub attempt_spec : {M : Type 1} → statement M
attempt_spec = tie.close (tie.spec (λ c κs. search runs) (λ c κs. search runs) (λ c κs. search runs) (λ c. search runs) (λ c. search runs)
    (λ c κs. search runs) (λ c. search runs) (λ c. search runs))
