use Rattle.frame_runs.proofs.Entering.{swapped_value, swapped_below, swapped_fits}
use borrow.Author.Rules.{rules}
use Rattle.frame_runs.proofs.either.Statement.{statement}
use Rattle.frame_runs.proofs.either.Tie as tie

pub either_spec : {M : Type 1} → statement M
either_spec = tie.close (tie.spec (λ c κs. search rules) (λ c. search rules) (λ c. search rules) (λ c κs. search rules) (λ c. search rules)
    (λ c. search rules) (λ c. search rules) (λ c. search (rules, swapped_fits)) (λ c κs. search (rules, swapped_below)) (λ c. search rules)
    (λ c. search rules) (λ c. search (rules, swapped_value)) (λ c. search rules) (λ c. search rules))
