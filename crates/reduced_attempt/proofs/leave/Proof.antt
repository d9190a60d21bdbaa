use borrow.Author.Rules.{rules}
use Rattle.reduced_attempt.proofs.Cases.{attempts}
use Rattle.reduced_attempt.proofs.leave.Statement.{statement}
use Rattle.reduced_attempt.proofs.leave.Tie as tie

pub leave_spec : {M : Type 1} → statement M
leave_spec = tie.close (tie.spec (λ c. search attempts) (λ c κs. search rules) (λ c. search rules) (λ c. search attempts))
