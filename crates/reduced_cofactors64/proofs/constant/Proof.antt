use borrow.Author.Rules.{rules}
use Rattle.reduced_cofactors.proofs.Finishing.{constants}
use Rattle.reduced_cofactors64.proofs.constant.Statement.{statement}
use Rattle.reduced_cofactors64.proofs.constant.Tie as tie

pub constant_spec : {M : Type 1} → statement M
constant_spec = tie.close (tie.spec (λ c. search rules) (λ c κs. search rules) (λ c. search rules) (λ c. search rules) (λ c. search rules)
    (λ c. search rules) (λ c. search rules) (λ c. search rules) (λ c κs. (search constants, search constants)) (λ c. search rules)
    (λ c. search rules) (λ c. search constants) (λ c. (search constants, search constants)))
