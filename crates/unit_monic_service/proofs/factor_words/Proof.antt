use Rattle.unit_monic_service.proofs.HandingRounds.{factoring}
use Rattle.unit_monic_service.proofs.factor_words.Statement.{statement}
use Rattle.unit_monic_service.proofs.factor_words.Tie as tie

pub factor_words_spec : {M : Type 1} → statement M
factor_words_spec = tie.close (tie.spec (λ c. search factoring) (λ c κs. search factoring) (λ c κs. (search factoring, search factoring))
    (λ c. search factoring) (λ c. search factoring) (λ c. search factoring) (λ c. search factoring) (λ c. search factoring)
    (λ c. search factoring) (λ c κs. search factoring) (λ c. search factoring) (λ c. search factoring) (λ c κs. search factoring)
    (λ c κs. search factoring) (λ c. search factoring) (λ c. search factoring) (λ c. search factoring)
    (λ c. (search factoring, search factoring)))
