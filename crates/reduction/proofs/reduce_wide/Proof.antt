use Rattle.reduction.proofs.Reducing.{reducing}
use Rattle.reduction.proofs.reduce_wide.Statement.{statement}
use Rattle.reduction.proofs.reduce_wide.Tie as tie

pub reduce_wide_spec : {M : Type 1} → statement M
reduce_wide_spec = tie.close (tie.spec (λ c κs. search reducing) (λ c. search reducing) (λ c κs. search reducing) (λ c. search reducing))
