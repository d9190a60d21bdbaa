use borrow.Author.Rules.{rules}
use Rattle.resultant_steps.proofs.AnswerChanges.{rotated}
use Rattle.resultant_steps64.proofs.exchanged.Statement.{statement}
use Rattle.resultant_steps64.proofs.exchanged.Tie as tie

pub exchanged_spec : {M : Type 1} → statement M
exchanged_spec = tie.close (tie.spec (λ c. search rotated) (λ c κs. search rules) (λ c. search rotated))
