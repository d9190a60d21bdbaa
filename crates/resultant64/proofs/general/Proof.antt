use borrow.Author.Rules.{rules}
use Rattle.resultant64.proofs.Cases.{placing}
use Rattle.resultant64.proofs.general.Statement.{statement}
use Rattle.resultant64.proofs.general.Tie as tie

pub general_spec : {M : Type 1} → statement M
general_spec = tie.close (tie.spec (λ c κs. search rules) (λ c κs. search rules) (λ c. search rules) (λ c. search rules) (λ c. search rules)
    (λ c κs. (search rules, search placing)) (λ c. search rules) (λ c. search placing))
