-- The measure is the number: its digits but the last are those of a tenth of it.
use Rattle.text_writer_service.proofs.Terms.{writing}
use Rattle.text_writer_service.proofs as own
use Rattle.text_writer_service.proofs.+put_number as cycle

pub +put_number_spec : {M : Type 1} → cycle.statement M
+put_number_spec =
    cycle.Tie.close (λ κs a. a.1.1.0)
    (λ t. cycle.Lts-put_number.spec (_, own.put_number.Reads.Post) _ own.put_number.Reads.Post
    (λ c. search writing) (λ c. search writing) (λ c. search writing) (λ c. search writing) (λ c. search writing) (λ c. search writing)
    (λ c κs. search writing) (λ c. search writing) (λ c. search writing) (λ c. search writing) (λ c. search writing) (λ c. search writing)
    (λ c. search writing))
