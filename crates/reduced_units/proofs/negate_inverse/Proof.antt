use borrow.Author.Rules.{rules}
use Rattle.reduced_units.proofs.Inverses.{negations}
use Rattle.reduced_units.proofs.negate_inverse.Statement.{statement}
use Rattle.reduced_units.proofs.negate_inverse.Tie as tie

pub negate_inverse_spec : {M : Type 1} → statement M
negate_inverse_spec = tie.close (tie.spec (λ c κs. search rules) (λ c. search negations) (λ c. search rules) (λ c. search negations)
    (λ c. search negations) (λ c. search rules) (λ c. search rules) (λ c κs. search rules) (λ c. search rules) (λ c. search rules)
    (λ c. search negations) (λ c. search rules) (λ c. search rules) (λ c. search rules) (λ c. search negations) (λ c. search rules)
    (λ c κs. ((search rules, (search negations, (search rules, search negations))), search negations)) (λ c. search rules)
    (λ c. search negations))
