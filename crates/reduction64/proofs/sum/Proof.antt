use Rattle.reduction64.proofs.Rules.{sums}
use Rattle.reduction64.proofs.sum.Statement.{statement}
use Rattle.reduction64.proofs.sum.Tie as tie

pub sum_spec : {M : Type 1} → statement M
sum_spec = tie.close (tie.spec (λ c. search sums) (λ c. search sums) (λ c. search sums) (λ c. search sums))
