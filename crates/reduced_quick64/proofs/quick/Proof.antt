use Rattle.reduced_quick64.proofs.QuickAttempts.{wide_tries}
use Rattle.reduced_quick64.proofs.quick.Statement.{statement}
use Rattle.reduced_quick64.proofs.quick.Tie as tie

pub quick_spec : {M : Type 1} → statement M
quick_spec = tie.close (tie.spec (λ c κs. (search wide_tries, (search wide_tries, search wide_tries))) (λ c. search wide_tries)
    (λ c. search wide_tries) (λ c. search wide_tries) (λ c. search wide_tries)
    (λ c κs. (search wide_tries, (search wide_tries, search wide_tries))) (λ c. search wide_tries) (λ c. search wide_tries)
    (λ c. search wide_tries) (λ c. search wide_tries))
