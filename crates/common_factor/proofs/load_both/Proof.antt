use borrow.Author.Rules.{rules}
use Rattle.common_factor.proofs.Loads.{loadings}
use Rattle.common_factor.proofs.load_both.Statement.{statement}
use Rattle.common_factor.proofs.load_both.Tie as tie

pub load_both_spec : {M : Type 1} → statement M
load_both_spec = tie.close (tie.spec (λ c κs. search rules) (λ c κs. search rules) (λ c. search rules) (λ c. search loadings))
