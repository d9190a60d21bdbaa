use borrow.Author.Rules.{rules}
use Rattle.band_clearing.proofs.TwoRows.{multiples}
use Rattle.band_clearing.proofs.subtract_multiple.Statement.{statement}
use Rattle.band_clearing.proofs.subtract_multiple.Tie as tie

pub subtract_multiple_spec : {M : Type 1} → statement M
subtract_multiple_spec = tie.close (tie.spec (λ c. search rules) (λ c. search rules) (λ c. search rules) (λ c. search rules)
    (λ c. search rules) (λ c. search rules) (λ c κs. search rules) (λ c. search multiples) (λ c. search rules) (λ c. search multiples)
    (λ c κs. search rules) (λ c. search multiples) (λ c κs. search rules) (λ c. search rules) (λ c. search multiples))
