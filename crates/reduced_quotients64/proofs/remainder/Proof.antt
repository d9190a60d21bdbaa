use borrow.Author.Rules.{rules}
use Rattle.reduced_quotients.proofs.Preparing.{rests}
use Rattle.reduced_quotients64.proofs.remainder.Statement.{statement}
use Rattle.reduced_quotients64.proofs.remainder.Tie as tie

pub remainder_spec : {M : Type 1} → statement M
remainder_spec = tie.close (tie.spec (λ c. search rules) (λ c. search rules) (λ c. search rules) (λ c. search rules) (λ c. search rules)
    (λ c κs. search rules) (λ c. search rules) (λ c κs. search rules) (λ c. search rules) (λ c. search rules) (λ c. search rests)
    (λ c κs. (search rests, (search rests, search rests))) (λ c. search rules) (λ c. search rests))
