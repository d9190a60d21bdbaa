use Rattle.reduction.proofs.Reducing.{reducing}
use Rattle.reduction.proofs.sum_two.Statement.{statement}
use Rattle.reduction.proofs.sum_two.Tie as tie

pub sum_two_spec : {M : Type 1} → statement M
sum_two_spec = tie.close (tie.spec (λ c. search reducing) (λ c. search reducing) (λ c. search reducing) (λ c. search reducing)
    (λ c. search reducing) (λ c κs. search reducing) (λ c κs. search reducing) (λ c. search reducing))
