use Rattle.reduction64.proofs.Rules.{products}
use Rattle.reduction64.proofs.fold.Statement.{statement}
use Rattle.reduction64.proofs.fold.Tie as tie

pub fold_spec : {M : Type 1} → statement M
fold_spec = tie.close (tie.spec (λ c κs. search products) (λ c. search products))
