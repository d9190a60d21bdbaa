use Rattle.evaluator_matrices.proofs.Rows.{rows}
use Rattle.evaluator_matrices64.proofs.reduce_row.Statement.{statement}
use Rattle.evaluator_matrices64.proofs.reduce_row.Tie as tie

pub reduce_row_spec : {M : Type 1} → statement M
reduce_row_spec = tie.close (tie.spec (λ c. search rows) (λ c. search rows) (λ c. search rows) (λ c. search rows) (λ c. search rows)
    (λ c. search rows) (λ c. search rows) (λ c. search rows) (λ c. search rows) (λ c. search rows) (λ c. search rows) (λ c. search rows)
    (λ c. search rows) (λ c κs. search rows) (λ c. search rows) (λ c. search rows) (λ c. search rows))
