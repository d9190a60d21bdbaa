use borrow.Author.Rules.{rules}
use Rattle.cofactor_band.proofs.ColumnRounds.{rounds}
use Rattle.cofactor_band.proofs.column.Statement.{statement}
use Rattle.cofactor_band.proofs.column.Tie as tie

pub column_spec : {M : Type 1} → statement M
column_spec = tie.close (tie.spec (λ c κs. search rules) (λ c κs. search rules) (λ c κs. search rounds) (λ c. search rules)
    (λ c κs. search rounds) (λ c. search rules) (λ c. search rules) (λ c. search rounds))
