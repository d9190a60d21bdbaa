use Rattle.euclid_steps.specs.EuclidStages.{Reaches}
use Rattle.modulus64.specs.Plain.{plain}
use Prim.Native.Nat.{◌+◌}
use Rattle.resultant_euclid.proofs.Steps.{runs}
use Rattle.resultant_euclid64.proofs.finish.Statement.{statement}
use Rattle.resultant_euclid64.proofs.finish.Tie as tie

pub finish_spec : {M : Type 1} → statement M
finish_spec = tie.close (tie.spec (λ w₀ m y₀ w y. Reaches (plain m) y₀ w₀ y w) (λ w₀ m y₀ w y. y.d + y.e) (λ c. search runs) (λ c κs. search runs)
    (λ c. search runs) (λ c. search runs) (λ c. search runs) (λ c. search runs))
