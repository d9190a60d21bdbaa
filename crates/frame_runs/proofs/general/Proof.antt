use Rattle.frame_runs.proofs.Lending.{wiped_after}
use borrow.Author.Rules.{rules}
use Rattle.frame_runs.proofs.general.Statement.{statement}
use Rattle.frame_runs.proofs.general.Tie as tie

pub general_spec : {M : Type 1} → statement M
general_spec = tie.close (tie.spec (λ c κs. search rules) (λ c κs. search rules) (λ c. search rules) (λ c. search (rules, wiped_after)))
