use borrow.Author.Rules.{rules}
use Rattle.reduced_quotients.proofs.Divisions.{overs}
use Rattle.reduced_quotients.proofs.over_first.Statement.{statement}
use Rattle.reduced_quotients.proofs.over_first.Tie as tie

pub over_first_spec : {M : Type 1} → statement M
over_first_spec = tie.close (tie.spec (λ c κs. search rules) (λ c. search rules) (λ c. search rules) (λ c. search rules) (λ c. search rules)
    (λ c. search rules) (λ c κs. search overs) (λ c κs. (search overs, search overs)) (λ c. search rules) (λ c. search rules)
    (λ c. search rules) (λ c. search rules) (λ c. search overs) (λ c κs. (search rules, search overs)) (λ c. search rules)
    (λ c. search rules) (λ c. (search overs, search overs)))
