use borrow.Author.Rules.{rules}
use Rattle.resultant.proofs.Loading.{loading}
use Rattle.resultant64.proofs.ordered.Statement.{statement}
use Rattle.resultant64.proofs.ordered.Tie as tie

pub ordered_spec : {M : Type 1} → statement M
ordered_spec = tie.close (tie.spec (λ c κs. search rules) (λ c. search rules) (λ c. search rules) (λ c κs. search rules) (λ c. search rules)
    (λ c. search loading) (λ c. search rules) (λ c. search rules))
