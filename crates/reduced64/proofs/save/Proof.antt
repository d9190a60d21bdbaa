use Rattle.reduced.proofs.MixRounds.{runs}
use Rattle.reduced64.proofs.save.Statement.{statement}
use Rattle.reduced64.proofs.save.Tie as tie

pub save_spec : {M : Type 1} → statement M
save_spec = tie.close (tie.spec (λ c κs. search runs) (λ c. search runs) (λ c. search runs) (λ c. search runs) (λ c κs. search runs)
    (λ c. search runs) (λ c. search runs) (λ c. search runs) (λ c κs. search runs) (λ c. search runs) (λ c. (search runs, search runs)))
