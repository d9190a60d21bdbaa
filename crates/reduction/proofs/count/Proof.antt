use Rattle.reduction.proofs.Reducing.{reducing}
use Rattle.reduction.proofs.count.Statement.{statement}
use Rattle.reduction.proofs.count.Tie as tie

pub count_spec : {M : Type 1} → statement M
count_spec = tie.close (tie.spec (λ c. search reducing) (λ c κs. search reducing) (λ c. search reducing) (λ c. search reducing))
