use Rattle.reduction.proofs.Masks.{masks}
use Rattle.reduction.proofs.power_of_two.Statement.{statement}
use Rattle.reduction.proofs.power_of_two.Tie as tie

pub power_of_two_spec : {M : Type 1} → statement M
power_of_two_spec = tie.close (tie.spec (λ c. search masks) (λ c. search masks) (λ c. search masks))
