use Rattle.frame_runs.proofs.Lending.{back}
use borrow.Author.Rules.{rules}
use Rattle.frame_runs.proofs.reduced.Statement.{statement}
use Rattle.frame_runs.proofs.reduced.Tie as tie

pub reduced_spec : {M : Type 1} → statement M
reduced_spec = tie.close (tie.spec (λ c. search rules) (λ c. search rules) (λ c. search rules) (λ c κs. search rules) (λ c. search rules)
    (λ c. search (rules, back)))
