use borrow.Author.Rules.{rules}
use Rattle.common_factor.proofs.Steps.{steps}
use Rattle.common_factor.proofs.step.Statement.{statement}
use Rattle.common_factor.proofs.step.Tie as tie

pub step_spec : {M : Type 1} → statement M
step_spec = tie.close (tie.spec (λ c κs. search rules) (λ c. search rules) (λ c. search rules) (λ c. search rules) (λ c κs. search rules)
    (λ c κs. search steps) (λ c. search rules) (λ c. search steps))
