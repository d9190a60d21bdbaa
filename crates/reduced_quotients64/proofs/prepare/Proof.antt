use borrow.Author.Rules.{rules}
use Rattle.reduced_quotients.proofs.Preparing.{prepares}
use Rattle.reduced_quotients64.proofs.prepare.Statement.{statement}
use Rattle.reduced_quotients64.proofs.prepare.Tie as tie

pub prepare_spec : {M : Type 1} → statement M
prepare_spec = tie.close (tie.spec (λ c κs. search rules) (λ c. search rules) (λ c. search rules) (λ c. search rules) (λ c. search rules)
    (λ c κs. search rules) (λ c. search rules) (λ c. search rules) (λ c. search rules) (λ c. search rules) (λ c. search rules)
    (λ c. search rules) (λ c κs. search rules) (λ c. search rules) (λ c. search rules) (λ c. search rules) (λ c. search rules)
    (λ c. search rules) (λ c κs. search rules) (λ c. search rules) (λ c. search rules) (λ c. search rules) (λ c. search rules)
    (λ c. search rules) (λ c. search prepares) (λ c. search prepares))
