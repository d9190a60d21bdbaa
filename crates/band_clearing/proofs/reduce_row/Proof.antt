use borrow.Author.Rules.{rules}
use Rattle.band_clearing.proofs.TwoRows.{reductions}
use Rattle.band_clearing.proofs.reduce_row.Statement.{statement}
use Rattle.band_clearing.proofs.reduce_row.Tie as tie

pub reduce_row_spec : {M : Type 1} → statement M
reduce_row_spec = tie.close (tie.spec (λ c. search rules) (λ c. search rules) (λ c. search rules) (λ c. search rules) (λ c. search rules)
    (λ c. search rules) (λ c. search rules) (λ c. search reductions) (λ c κs. search rules) (λ c. search rules) (λ c. search reductions))
