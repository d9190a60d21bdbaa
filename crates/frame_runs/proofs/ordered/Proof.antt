use Rattle.frame_runs.proofs.Entering.{found_two, entered_placed, entered_answer}
use borrow.Author.Rules.{rules}
use Rattle.frame_runs.proofs.ordered.Statement.{statement}
use Rattle.frame_runs.proofs.ordered.Tie as tie

pub ordered_spec : {M : Type 1} → statement M
ordered_spec = tie.close (tie.spec (λ c κs. search rules) (λ c κs. search rules) (λ c κs. search rules) (λ c. search rules)
    (λ c. search rules) (λ c κs. search (rules, found_two, entered_placed)) (λ c. search rules) (λ c. search (rules, entered_answer)))
