use Rattle.evaluator_matrices.proofs.Rows.{rows}
use Rattle.evaluator_matrices.proofs.exchange.Statement.{statement}
use Rattle.evaluator_matrices.proofs.exchange.Tie as tie

pub exchange_spec : {M : Type 1} → statement M
exchange_spec = tie.close (tie.spec (λ c. search rows) (λ c. search rows) (λ c κs. search rows) (λ c. search rows) (λ c. search rows)
    (λ c. search rows) (λ c. search rows) (λ c. search rows) (λ c. search rows) (λ c. search rows))
