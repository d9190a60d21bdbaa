use borrow.Author.Rules.{rules}
use Rattle.divisor.proofs.Cases.{windows}
use Rattle.divisor64.proofs.over.Statement.{statement}
use Rattle.divisor64.proofs.over.Tie as tie

pub over_spec : {M : Type 1} → statement M
over_spec = tie.close (tie.spec (λ c. search windows) (λ c κs. search rules) (λ c. search rules) (λ c. search rules))
