use Rattle.frame_reader.proofs.PendingAnswers.{pending_answers}
use Rattle.frame_reader.proofs.close.Statement.{statement}
use Rattle.frame_reader.proofs.close.Tie as tie

pub close_spec : {M : Type 1} → statement M
close_spec = tie.close (tie.spec (λ c κs. search pending_answers) (λ c. search pending_answers) (λ c. search pending_answers)
    (λ c. (search pending_answers, (search pending_answers, search pending_answers))) (λ c κs. search pending_answers)
    (λ c κs. search pending_answers) (λ c. search pending_answers) (λ c. search pending_answers) (λ c. search pending_answers)
    (λ c. (search pending_answers, (search pending_answers, search pending_answers))))
