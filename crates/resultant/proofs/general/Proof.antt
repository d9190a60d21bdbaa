use borrow.Author.Rules.{rules}
use Rattle.resultant.proofs.Entering.{entering}
use Rattle.resultant.proofs.general.Statement.{statement}
use Rattle.resultant.proofs.general.Tie as tie

pub general_spec : {M : Type 1} → statement M
general_spec = tie.close (tie.spec (λ c κs. search rules) (λ c κs. search rules) (λ c. search rules) (λ c. search rules) (λ c. search rules)
    (λ c κs. search entering) (λ c κs. search rules) (λ c. search rules) (λ c. search rules) (λ c. search rules) (λ c κs. search rules)
    (λ c κs. search rules) (λ c. search rules) (λ c. search entering))
