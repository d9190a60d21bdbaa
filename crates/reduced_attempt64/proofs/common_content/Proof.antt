use borrow.Author.Rules.{rules}
use Rattle.reduced_attempt64.proofs.Cases.{attempts}
use Rattle.reduced_attempt64.proofs.common_content.Statement.{statement}
use Rattle.reduced_attempt64.proofs.common_content.Tie as tie

pub common_content_spec : {M : Type 1} → statement M
common_content_spec = tie.close (tie.spec (λ c. search rules) (λ c κs. search rules) (λ c κs. search rules) (λ c. search rules)
    (λ c. search rules) (λ c. search rules) (λ c κs. search rules) (λ c. search rules) (λ c. (search attempts, search attempts)))
