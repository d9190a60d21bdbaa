use Rattle.text_writer_service.proofs.Terms.{writing}
use Rattle.text_writer_service.proofs.put_power.Statement.{statement}
use Rattle.text_writer_service.proofs.put_power.Tie as tie

pub put_power_spec : {M : Type 1} → statement M
put_power_spec = tie.close (tie.spec (λ c. search writing) (λ c. search writing) (λ c. search writing) (λ c. search writing)
    (λ c. search writing) (λ c. search writing) (λ c. search writing) (λ c. search writing) (λ c. search writing) (λ c. search writing)
    (λ c. search writing) (λ c κs. search writing) (λ c. search writing) (λ c. search writing))
