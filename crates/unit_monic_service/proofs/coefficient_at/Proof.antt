use Rattle.unit_monic_service.proofs.HandingRounds.{factoring}
use Rattle.unit_monic_service.proofs.coefficient_at.Statement.{statement}
use Rattle.unit_monic_service.proofs.coefficient_at.Tie as tie

pub coefficient_at_spec : {M : Type 1} → statement M
coefficient_at_spec = tie.close (tie.spec (λ c. search factoring) (λ c. search factoring) (λ c. search factoring) (λ c. search factoring)
    (λ c. search factoring))
