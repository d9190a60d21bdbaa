use borrow.Author.Rules.{rules}
use Rattle.reduced_cofactors.proofs.Finishing.{divides}
use Rattle.reduced_cofactors.proofs.divide.Statement.{statement}
use Rattle.reduced_cofactors.proofs.divide.Tie as tie

pub divide_spec : {M : Type 1} → statement M
divide_spec = tie.close (tie.spec (λ c. search rules) (λ c. search rules) (λ c. search rules) (λ c. search rules)
    (λ c κs. (search divides, search divides)) (λ c. search rules) (λ c. search rules) (λ c. search rules) (λ c. search rules)
    (λ c. search rules) (λ c. search rules) (λ c. search rules) (λ c. search rules) (λ c κs. search rules) (λ c. search rules)
    (λ c. search rules))
