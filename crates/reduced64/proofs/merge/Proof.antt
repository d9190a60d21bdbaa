use Rattle.reduced.proofs.MixRounds.{runs}
use Rattle.reduced64.proofs.merge.Statement.{statement}
use Rattle.reduced64.proofs.merge.Tie as tie

pub merge_spec : {M : Type 1} → statement M
merge_spec = tie.close (tie.spec (λ c. search runs) (λ c κs. search runs) (λ c κs. search runs) (λ c κs. search runs) (λ c κs. search runs)
    (λ c κs. search runs) (λ c. search runs) (λ c. search runs) (λ c. search runs) (λ c κs. search runs) (λ c. search runs)
    (λ c. search runs) (λ c. search runs) (λ c. search runs) (λ c. search runs) (λ c κs. search runs) (λ c. search runs) (λ c. search runs)
    (λ c. search runs))
