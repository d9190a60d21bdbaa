use Rattle.arithmetic.proofs.Squares.{Powering, powers}
use Rattle.reduction64.proofs.power.Statement.{statement}
use Rattle.reduction64.proofs.power.Tie as tie

pub power_spec : {M : Type 1} → statement M
power_spec = tie.close (tie.spec (λ m x k r₀ y₀ j₀ r y j. Powering m.n x k r y j) (λ m x k r₀ y₀ j₀ r y j. j) (λ c κs. search powers)
    (λ c. search powers) (λ c κs. search powers) (λ c. search powers) (λ c κs. search powers) (λ c κs. search powers) (λ c. search powers)
    (λ c. search powers) (λ c. search powers))
