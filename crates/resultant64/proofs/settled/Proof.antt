use borrow.Author.Rules.{rules}
use Rattle.resultant.proofs.Loading.{loading}
use Rattle.resultant64.proofs.settled.Statement.{statement}
use Rattle.resultant64.proofs.settled.Tie as tie

pub settled_spec : {M : Type 1} → statement M
settled_spec = tie.close (tie.spec (λ c κs. search rules) (λ c. search rules) (λ c. search rules) (λ c κs. search rules) (λ c. search rules)
    (λ c κs. search rules) (λ c. search loading) (λ c. search rules) (λ c. search rules) (λ c. search rules) (λ c. search rules))
