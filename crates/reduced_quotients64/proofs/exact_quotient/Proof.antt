use borrow.Author.Rules.{rules}
use Rattle.reduced_quotients.proofs.Divisions.{quotients}
use Rattle.reduced_quotients64.proofs.exact_quotient.Statement.{statement}
use Rattle.reduced_quotients64.proofs.exact_quotient.Tie as tie

pub exact_quotient_spec : {M : Type 1} → statement M
exact_quotient_spec = tie.close (tie.spec (λ c. search rules) (λ c. search rules) (λ c. search rules) (λ c. search rules)
    (λ c. search rules) (λ c κs. search rules) (λ c κs. search rules) (λ c. search rules) (λ c. search rules) (λ c. search rules)
    (λ c. search rules) (λ c. search rules) (λ c κs. (search quotients, search quotients)) (λ c. search rules)
    (λ c κs. (search quotients, (search quotients, search quotients))) (λ c. search quotients) (λ c. search quotients))
