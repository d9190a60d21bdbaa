use Rattle.reduction64.proofs.Rules.{sums}
use Rattle.reduction64.proofs.sum_two.Statement.{statement}
use Rattle.reduction64.proofs.sum_two.Tie as tie

pub sum_two_spec : {M : Type 1} → statement M
sum_two_spec = tie.close (tie.spec (λ c κs. search sums) (λ c κs. search sums) (λ c. search sums))
