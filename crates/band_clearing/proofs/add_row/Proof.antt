use borrow.Author.Rules.{rules}
use Rattle.band_clearing.proofs.Cells.{added_rows}
use Rattle.band_clearing.proofs.add_row.Statement.{statement}
use Rattle.band_clearing.proofs.add_row.Tie as tie

pub add_row_spec : {M : Type 1} → statement M
add_row_spec = tie.close (tie.spec (λ c. search rules) (λ c. search rules) (λ c κs. search rules) (λ c. search rules) (λ c. search rules)
    (λ c κs. search rules) (λ c. search rules) (λ c. search rules) (λ c κs. search rules) (λ c. search rules) (λ c. search added_rows))
