use borrow.Author.Rules.{rules}
use Rattle.cofactor_band.proofs.ColumnRounds.{ends}
use Rattle.cofactor_band.proofs.last_row.Statement.{statement}
use Rattle.cofactor_band.proofs.last_row.Tie as tie

pub last_row_spec : {M : Type 1} → statement M
last_row_spec = tie.close (tie.spec (λ c. search rules) (λ c. search rules) (λ c κs. search rules) (λ c κs. search ends) (λ c. search rules)
    (λ c. search rules) (λ c κs. search rules) (λ c. search rules) (λ c. search ends))
