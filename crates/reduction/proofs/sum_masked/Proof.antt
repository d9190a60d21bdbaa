use Rattle.reduction.proofs.Masks.{masks}
use Rattle.reduction.proofs.sum_masked.Statement.{statement}
use Rattle.reduction.proofs.sum_masked.Tie as tie

pub sum_masked_spec : {M : Type 1} → statement M
sum_masked_spec = tie.close (tie.spec (λ c. search masks) (λ c. search masks) (λ c. search masks) (λ c. search masks) (λ c. search masks)
    (λ c. search masks) (λ c. search masks) (λ c. search masks))
