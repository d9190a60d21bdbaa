use Rattle.reduced_quick.proofs.QuickAttempts.{tries}
use Rattle.reduced_quick.proofs.settle.Statement.{statement}
use Rattle.reduced_quick.proofs.settle.Tie as tie

pub settle_spec : {M : Type 1} → statement M
settle_spec = tie.close (tie.spec (λ c κs. search tries) (λ c κs. search tries) (λ c. search tries) (λ c κs. search tries)
    (λ c. search tries) (λ c. search tries) (λ c. search tries))
