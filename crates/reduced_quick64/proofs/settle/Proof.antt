use Rattle.reduced_quick64.proofs.QuickAttempts.{wide_tries}
use Rattle.reduced_quick64.proofs.settle.Statement.{statement}
use Rattle.reduced_quick64.proofs.settle.Tie as tie

pub settle_spec : {M : Type 1} → statement M
settle_spec = tie.close (tie.spec (λ c κs. search wide_tries) (λ c κs. search wide_tries) (λ c. search wide_tries)
    (λ c κs. search wide_tries) (λ c. search wide_tries) (λ c. search wide_tries) (λ c. search wide_tries))
