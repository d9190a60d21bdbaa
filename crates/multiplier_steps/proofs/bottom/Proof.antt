use Rattle.multiplier_steps.proofs.Lifting.{backs}
use borrow.Author.Rules.{rules}
use Rattle.multiplier_steps.proofs.bottom.Statement.{statement}
use Rattle.multiplier_steps.proofs.bottom.Tie as tie

pub bottom_spec : {M : Type 1} → statement M
bottom_spec = tie.close (tie.spec (λ c κs. search rules) (λ c. search rules) (λ c κs. search rules) (λ c. search rules) (λ c. search rules)
    (λ c. search backs))
