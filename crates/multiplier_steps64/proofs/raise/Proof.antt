use Rattle.multiplier_steps.proofs.Lifting.{raising, backs}
use borrow.Author.Rules.{rules}
use Rattle.multiplier_steps64.proofs.raise.Statement.{statement}
use Rattle.multiplier_steps64.proofs.raise.Tie as tie

pub raise_spec : {M : Type 1} → statement M
raise_spec =
    tie.close
    (tie.spec
    (λ c κs. search rules) (λ c κs. search rules) (λ c κs. search rules) (λ c. search rules) (λ c. search rules)
    (λ c κs. (
      search raising,
      (
        (search raising, (search raising, (search raising, search raising))),
        (search raising, (search raising, search raising)),
      ),
    ))
    (λ c. search rules)
    (λ c. search backs))
