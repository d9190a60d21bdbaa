use Rattle.text_writer_service.proofs.Terms.{writing}
use Rattle.text_writer_service.proofs.put_plus.Statement.{statement}
use Rattle.text_writer_service.proofs.put_plus.Tie as tie

pub put_plus_spec : {M : Type 1} → statement M
put_plus_spec = tie.close (tie.spec (λ c. search writing) (λ c. search writing) (λ c. search writing) (λ c. search writing)
    (λ c. search writing))
