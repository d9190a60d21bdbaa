use Rattle.reduced_quick64.proofs.QuickAttempts.{wide_tries}
use Rattle.reduced_quick64.proofs.ordered.Statement.{statement}
use Rattle.reduced_quick64.proofs.ordered.Tie as tie

pub ordered_spec : {M : Type 1} → statement M
ordered_spec = tie.close (tie.spec (λ c κs. search wide_tries) (λ c κs. search wide_tries) (λ c. search wide_tries) (λ c. search wide_tries)
    (λ c. search wide_tries) (λ c. search wide_tries))
