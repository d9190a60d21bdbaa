use Rattle.factors_service.proofs.Services.{serving}
use Rattle.factors_service.proofs.arrive_served.Statement.{statement}
use Rattle.factors_service.proofs.arrive_served.Tie as tie

pub arrive_served_spec : {M : Type 1} → statement M
arrive_served_spec = tie.close (tie.spec (λ c κs. search serving) (λ c. search serving) (λ c. search serving) (λ c κs. search serving)
    (λ c κs. search serving) (λ c. search serving) (λ c. search serving))
