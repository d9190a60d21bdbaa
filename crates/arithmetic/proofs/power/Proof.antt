use Rattle.arithmetic.proofs.Squares.{Powering, powers}
use Rattle.arithmetic.proofs.power.Statement.{statement}
use Rattle.arithmetic.proofs.power.Tie as tie

pub power_spec : {M : Type 1} → statement M
power_spec = tie.close (tie.spec (λ n x k r₀ y₀ j₀ r y j. Powering n x k r y j) (λ n x k r₀ y₀ j₀ r y j. j) (λ c κs. search powers)
    (λ c. search powers) (λ c κs. search powers) (λ c. search powers) (λ c κs. search powers) (λ c κs. search powers) (λ c. search powers)
    (λ c. search powers) (λ c. search powers))
