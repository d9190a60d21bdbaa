use borrow.Author.Rules.{rules}
use Rattle.band_clearing.proofs.Clearing.{clearings}
use Rattle.band_clearing.proofs.clear_row.Statement.{statement}
use Rattle.band_clearing.proofs.clear_row.Tie as tie

pub clear_row_spec : {M : Type 1} → statement M
clear_row_spec = tie.close (tie.spec (λ c. search clearings) (λ c. search rules) (λ c. search rules) (λ c. search rules)
    (λ c. search clearings) (λ c κs. search rules) (λ c κs. search clearings) (λ c. search rules) (λ c. search clearings))
