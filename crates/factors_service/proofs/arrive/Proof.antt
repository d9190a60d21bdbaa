use Rattle.factors_service.proofs.Services.{arriving}
use Rattle.factors_service.proofs.arrive.Statement.{statement}
use Rattle.factors_service.proofs.arrive.Tie as tie

pub arrive_spec : {M : Type 1} → statement M
arrive_spec = tie.close (tie.spec (λ c κs. search arriving) (λ c. search arriving) (λ c. search arriving) (λ c. search arriving)
    (λ c κs. search arriving) (λ c. search arriving) (λ c. search arriving))
