use Rattle.arithmetic.proofs.Negatives.{negatives}
use Rattle.arithmetic.proofs.negate.Statement.{statement}
use Rattle.arithmetic.proofs.negate.Tie as tie

pub negate_spec : {M : Type 1} → statement M
negate_spec = tie.close (tie.spec (λ c. search negatives) (λ c. search negatives) (λ c. search negatives))
