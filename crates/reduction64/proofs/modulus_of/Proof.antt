use Rattle.reduction64.proofs.Rules.{reciprocals}
use Rattle.reduction64.proofs.modulus_of.Statement.{statement}
use Rattle.reduction64.proofs.modulus_of.Tie as tie

pub modulus_of_spec : {M : Type 1} → statement M
modulus_of_spec = tie.close (tie.spec (λ c. search reciprocals) (λ c. search reciprocals) (λ c. search reciprocals)
    (λ c. search reciprocals) (λ c. search reciprocals) (λ c. search reciprocals) (λ c κs. search reciprocals) (λ c κs. search reciprocals)
    (λ c κs. search reciprocals) (λ c κs. search reciprocals) (λ c. search reciprocals))
