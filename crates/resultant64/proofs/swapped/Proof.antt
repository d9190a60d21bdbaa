use borrow.Author.Rules.{rules}
use Rattle.resultant.proofs.Loading.{loading}
use Rattle.resultant64.proofs.swapped.Statement.{statement}
use Rattle.resultant64.proofs.swapped.Tie as tie

pub swapped_spec : {M : Type 1} → statement M
swapped_spec = tie.close (tie.spec (λ c κs. search rules) (λ c. search rules) (λ c. search rules) (λ c κs. search rules) (λ c. search rules)
    (λ c. search loading))
