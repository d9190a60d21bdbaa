use borrow.Author.Rules.{rules}
use Rattle.common_factor.proofs.Loads.{loadings}
use Rattle.common_factor.proofs.search.Statement.{statement}
use Rattle.common_factor.proofs.search.Tie as tie

pub search_spec : {M : Type 1} → statement M
search_spec = tie.close (tie.spec (λ c κs. search rules) (λ c κs. search loadings) (λ c κs. search loadings) (λ c. search rules)
    (λ c. search loadings))
