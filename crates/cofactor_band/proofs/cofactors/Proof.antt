use borrow.Author.Rules.{rules}
use Rattle.cofactor_band.proofs.ColumnRounds.{ends}
use Rattle.cofactor_band.proofs.cofactors.Statement.{statement}
use Rattle.cofactor_band.proofs.cofactors.Tie as tie

pub cofactors_spec : {M : Type 1} → statement M
cofactors_spec = tie.close (tie.spec (λ c κs. search rules) (λ c κs. search rules) (λ c κs. search rules) (λ c. search rules)
    (λ c κs. search rules) (λ c. search rules) (λ c. search rules) (λ c. search rules) (λ c. search ends))
