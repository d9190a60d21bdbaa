use Rattle.multiplier_steps.proofs.Lifting.{exchanging, backs}
use borrow.Author.Rules.{rules}
use Rattle.multiplier_steps.proofs.exchange.Statement.{statement}
use Rattle.multiplier_steps.proofs.exchange.Tie as tie

pub exchange_spec : {M : Type 1} → statement M
exchange_spec =
    tie.close
    (tie.spec
    (λ c κs. (
      search exchanging,
      (
        (search exchanging, (search exchanging, (search exchanging, (search exchanging, search exchanging)))),
        (search exchanging, (search exchanging, search exchanging)),
      ),
    ))
    (λ c. search rules)
    (λ c. search backs))
