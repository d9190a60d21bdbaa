use Rattle.reduction64.proofs.Rules.{sums}
use Rattle.reduction64.proofs.difference.Statement.{statement}
use Rattle.reduction64.proofs.difference.Tie as tie

pub difference_spec : {M : Type 1} → statement M
difference_spec = tie.close (tie.spec (λ c κs. search sums) (λ c. search sums) (λ c κs. search sums) (λ c κs. search sums)
    (λ c. search sums))
