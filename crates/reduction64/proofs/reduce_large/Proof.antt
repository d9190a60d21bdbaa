use Rattle.reduction64.proofs.Rules.{large}
use Rattle.reduction64.proofs.reduce_large.Statement.{statement}
use Rattle.reduction64.proofs.reduce_large.Tie as tie

pub reduce_large_spec : {M : Type 1} → statement M
reduce_large_spec = tie.close (tie.spec (λ c κs. search large) (λ c. search large) (λ c κs. search large) (λ c κs. search large)
    (λ c κs. search large) (λ c κs. search large) (λ c. search large) (λ c κs. search large) (λ c. search large))
