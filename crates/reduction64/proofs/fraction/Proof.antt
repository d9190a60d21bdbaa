use Rattle.reduction64.proofs.Rules.{fractions}
use Rattle.reduction64.proofs.fraction.Statement.{statement}
use Rattle.reduction64.proofs.fraction.Tie as tie

pub fraction_spec : {M : Type 1} → statement M
fraction_spec = tie.close (tie.spec (λ c κs. search fractions) (λ c κs. search fractions) (λ c. search fractions) (λ c. search fractions)
    (λ c. search fractions))
