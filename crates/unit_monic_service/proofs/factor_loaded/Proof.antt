use Rattle.unit_monic_service.proofs.HandingRounds.{factoring}
use Rattle.unit_monic_service.proofs.factor_loaded.Statement.{statement}
use Rattle.unit_monic_service.proofs.factor_loaded.Tie as tie

pub factor_loaded_spec : {M : Type 1} → statement M
factor_loaded_spec = tie.close (tie.spec (λ c κs. search factoring) (λ c κs. (search factoring, search factoring)) (λ c. search factoring)
    (λ c. search factoring))
