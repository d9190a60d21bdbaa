use borrow.Author.Rules.{rules}
use Rattle.reduced_cofactors.proofs.Finishing.{finishes}
use Rattle.reduced_cofactors.proofs.finish.Statement.{statement}
use Rattle.reduced_cofactors.proofs.finish.Tie as tie

pub finish_spec : {M : Type 1} → statement M
finish_spec = tie.close (tie.spec (λ c κs. search (rules, finishes)) (λ c. search rules) (λ c. search rules) (λ c. search rules)
    (λ c. search rules) (λ c. search rules) (λ c. search rules) (λ c. search rules) (λ c. search rules) (λ c. search rules)
    (λ c. search (rules, finishes)) (λ c κs. search (rules, finishes)) (λ c. search rules) (λ c. search rules) (λ c. search rules)
    (λ c. search rules) (λ c. search rules) (λ c. search rules) (λ c. search rules) (λ c. search rules) (λ c. search rules)
    (λ c. search rules) (λ c. search rules) (λ c. search rules) (λ c κs. (search finishes, search finishes)) (λ c. search rules)
    (λ c. search rules) (λ c. search rules) (λ c. (search finishes, search finishes)))
