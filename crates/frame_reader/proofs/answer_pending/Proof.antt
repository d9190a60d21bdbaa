use Rattle.frame_reader.proofs.PendingAnswers.{pending_answers}
use Rattle.frame_reader.proofs.answer_pending.Statement.{statement}
use Rattle.frame_reader.proofs.answer_pending.Tie as tie

pub answer_pending_spec : {M : Type 1} → statement M
answer_pending_spec = tie.close (tie.spec (λ c κs. search pending_answers) (λ c. search pending_answers) (λ c. search pending_answers)
    (λ c. search pending_answers) (λ c. search pending_answers) (λ c. search pending_answers) (λ c κs. search pending_answers)
    (λ c. search pending_answers) (λ c. search pending_answers) (λ c. search pending_answers))
