use borrow.Author.Rules.{rules}
use Rattle.reduced_cofactors.proofs.Solving.{sums, cores}
use Rattle.reduced_cofactors64.proofs.core.Statement.{statement}
use Rattle.reduced_cofactors64.proofs.core.Tie as tie

pub core_spec : {M : Type 1} → statement M
core_spec = tie.close (tie.spec (λ c. search rules) (λ c. search rules) (λ c. search sums) (λ c. search rules) (λ c. search sums)
    (λ c. search sums) (λ c. search sums) (λ c. search rules) (λ c. search rules) (λ c. search rules) (λ c. search cores)
    (λ c κs. search cores) (λ c κs. (search cores, search cores)) (λ c. search rules) (λ c. search rules) (λ c. search rules)
    (λ c. (search cores, search cores)) (λ c κs. (search cores, search (rules, cores))) (λ c. search rules) (λ c. search rules)
    (λ c. search rules) (λ c. (search cores, search cores)))
