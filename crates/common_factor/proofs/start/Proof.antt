use borrow.Author.Rules.{rules}
use Rattle.common_factor.proofs.Starts.{starts}
use Rattle.common_factor.proofs.start.Statement.{statement}
use Rattle.common_factor.proofs.start.Tie as tie

pub start_spec : {M : Type 1} → statement M
start_spec = tie.close (tie.spec (λ c κs. search rules) (λ c κs. search rules) (λ c. search rules) (λ c κs. search starts)
    (λ c. search rules) (λ c. search starts) (λ c. search rules) (λ c. search starts) (λ c. search rules) (λ c κs. search starts)
    (λ c. search rules) (λ c. search starts))
