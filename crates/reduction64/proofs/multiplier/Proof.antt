use Rattle.reduction64.proofs.Rules.{factors}
use Rattle.reduction64.proofs.multiplier.Statement.{statement}
use Rattle.reduction64.proofs.multiplier.Tie as tie

pub multiplier_spec : {M : Type 1} → statement M
multiplier_spec = tie.close (tie.spec (λ c. search factors) (λ c κs. search factors) (λ c. search factors) (λ c κs. search factors)
    (λ c κs. search factors) (λ c. search factors) (λ c. search factors) (λ c. search factors))
