use Rattle.evaluator_matrices.specs.Elimination.{cell, Combined}
use Rattle.evaluator_matrices.proofs.Rows.{rows}
use Rattle.evaluator_matrices64.proofs.clear_entry.Statement.{statement}
use Rattle.evaluator_matrices64.proofs.clear_entry.Tie as tie

pub clear_entry_spec : {M : Type 1} → statement M
clear_entry_spec = tie.close (tie.spec (λ m i j r₀ r. Combined m.n i j r₀ r) (λ m i j r₀ r. cell r i j) (λ c. search rows)
    (λ c. search rows) (λ c. search rows) (λ c. search rows) (λ c. search rows) (λ c κs. search rows) (λ c. search rows) (λ c. search rows)
    (λ c. search rows) (λ c. search rows) (λ c κs. search rows) (λ c. search rows) (λ c κs. search rows) (λ c. search rows)
    (λ c. search rows) (λ c. search rows))
