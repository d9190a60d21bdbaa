use borrow.Author.Rules.{rules}
use Rattle.resultant.proofs.Entering.{entering}
use Rattle.resultant.proofs.attempted.Statement.{statement}
use Rattle.resultant.proofs.attempted.Tie as tie

pub attempted_spec : {M : Type 1} → statement M
attempted_spec = tie.close (tie.spec (λ c κs. search rules) (λ c κs. search rules) (λ c. search rules) (λ c. search rules)
    (λ c κs. search entering) (λ c. search rules) (λ c. search entering))
