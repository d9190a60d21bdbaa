use Rattle.frame_runs.proofs.Lending.{wiped_after}
use borrow.Author.Rules.{rules}
use Rattle.frame_runs.proofs.divisor.Statement.{statement}
use Rattle.frame_runs.proofs.divisor.Tie as tie

pub divisor_spec : {M : Type 1} → statement M
divisor_spec = tie.close (tie.spec (λ c κs. search rules) (λ c κs. search rules) (λ c. search rules) (λ c. search (rules, wiped_after)))
