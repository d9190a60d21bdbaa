use Rattle.cofactor_quick.proofs.QuickCofactors.{knows}
use Rattle.cofactor_quick.proofs.settle.Statement.{statement}
use Rattle.cofactor_quick.proofs.settle.Tie as tie

pub settle_spec : {M : Type 1} → statement M
settle_spec = tie.close (tie.spec (λ c κs. search knows) (λ c κs. search knows) (λ c. search knows) (λ c κs. search knows)
    (λ c. search knows) (λ c. search knows) (λ c. search knows))
