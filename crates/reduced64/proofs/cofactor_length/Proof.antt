use Rattle.reduced.proofs.MixRounds.{runs}
use Rattle.reduced64.proofs.cofactor_length.Statement.{statement}
use Rattle.reduced64.proofs.cofactor_length.Tie as tie

pub cofactor_length_spec : {M : Type 1} → statement M
cofactor_length_spec = tie.close (tie.spec (λ c κs. search runs) (λ c. search runs) (λ c. search runs) (λ c. search runs) (λ c. search runs)
    (λ c. search runs) (λ c. search runs) (λ c. search runs) (λ c. search runs) (λ c. search runs))
