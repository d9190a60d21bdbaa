use borrow.Author.Rules.{rules}
use Rattle.divisor_stages.proofs.Cases.{clearings}
use Rattle.divisor_stages64.proofs.take_content.Statement.{statement}
use Rattle.divisor_stages64.proofs.take_content.Tie as tie

pub take_content_spec : {M : Type 1} → statement M
take_content_spec = tie.close (tie.spec (λ c. search clearings) (λ c κs. search rules) (λ c. search rules) (λ c κs. search rules)
    (λ c. search rules) (λ c. search clearings))
