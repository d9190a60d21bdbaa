use Rattle.resultant_euclid.proofs.Steps.{runs}
use Rattle.resultant_euclid.proofs.value_of.Statement.{statement}
use Rattle.resultant_euclid.proofs.value_of.Tie as tie

pub value_of_spec : {M : Type 1} → statement M
value_of_spec = tie.close (tie.spec (λ c κs. search runs) (λ c κs. search runs) (λ c. search runs) (λ c. search runs) (λ c. search runs)
    (λ c κs. search runs) (λ c κs. search runs) (λ c κs. search runs) (λ c κs. search runs) (λ c κs. search runs) (λ c. search runs))
