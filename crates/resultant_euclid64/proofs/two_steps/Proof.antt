use native.Mathlib.Omega.{arith}
use Rattle.resultant_euclid.proofs.Steps.{runs}
use Rattle.resultant_euclid64.proofs.two_steps.Statement.{statement}
use Rattle.resultant_euclid64.proofs.two_steps.Tie as tie

pub two_steps_spec : {M : Type 1} → statement M
two_steps_spec = tie.close (tie.spec (λ c. search runs) (λ c κs. search runs) (λ c. search runs) (λ c. search runs)
    (λ c κs. (search runs, (search runs, omega arith))) (λ c. search runs) (λ c. search runs))
