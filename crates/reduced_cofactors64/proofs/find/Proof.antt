use borrow.Author.Rules.{rules}
use Rattle.reduced_cofactors.proofs.Solving.{finds}
use Rattle.reduced_cofactors64.proofs.find.Statement.{statement}
use Rattle.reduced_cofactors64.proofs.find.Tie as tie

pub find_spec : {M : Type 1} → statement M
find_spec = tie.close (tie.spec (λ c. search rules) (λ c. search rules) (λ c. search rules) (λ c. search rules) (λ c. search rules)
    (λ c. search rules) (λ c. search rules) (λ c. search rules) (λ c. search rules) (λ c κs. search rules) (λ c κs. search finds)
    (λ c. search rules) (λ c. search rules) (λ c. search rules) (λ c. search rules) (λ c. search rules) (λ c. search rules)
    (λ c. search rules) (λ c. search rules) (λ c. search rules) (λ c. search rules) (λ c. search rules) (λ c. search rules)
    (λ c κs. search finds) (λ c. search rules) (λ c. (search finds, search finds)))
