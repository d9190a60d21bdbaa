use Rattle.reduction64.proofs.Rules.{sums}
use Rattle.reduction64.proofs.sum_three.Statement.{statement}
use Rattle.reduction64.proofs.sum_three.Tie as tie

pub sum_three_spec : {M : Type 1} → statement M
sum_three_spec = tie.close (tie.spec (λ c κs. search sums) (λ c κs. search sums) (λ c κs. search sums) (λ c. search sums))
