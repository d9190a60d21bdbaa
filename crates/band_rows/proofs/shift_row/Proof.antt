use borrow.Author.Rules.{rules}
use Rattle.band_rows.proofs.Rows.{shifts}
use Rattle.band_rows.proofs.shift_row.Statement.{statement}
use Rattle.band_rows.proofs.shift_row.Tie as tie

pub shift_row_spec : {M : Type 1} → statement M
shift_row_spec = tie.close (tie.spec (λ c. search rules) (λ c. search rules) (λ c. search rules) (λ c κs. search rules) (λ c. search rules)
    (λ c. search rules) (λ c. search rules) (λ c. search rules) (λ c. search rules) (λ c. search shifts))
