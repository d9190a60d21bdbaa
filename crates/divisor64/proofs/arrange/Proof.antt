use borrow.Author.Rules.{rules}
use Rattle.divisor.proofs.Halves.{padded}
use Rattle.divisor64.proofs.arrange.Statement.{statement}
use Rattle.divisor64.proofs.arrange.Tie as tie

pub arrange_spec : {M : Type 1} → statement M
arrange_spec = tie.close (tie.spec (λ c κs. search rules) (λ c. search rules) (λ c κs. search rules) (λ c κs. search rules)
    (λ c. search rules) (λ c κs. search rules) (λ c. search rules) (λ c. search padded))
