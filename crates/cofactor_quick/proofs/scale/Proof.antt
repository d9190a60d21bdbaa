use Rattle.cofactor_quick.proofs.QuickCofactors.{knows}
use Rattle.cofactor_quick.proofs.scale.Statement.{statement}
use Rattle.cofactor_quick.proofs.scale.Tie as tie

pub scale_spec : {M : Type 1} → statement M
scale_spec = tie.close (tie.spec (λ c κs. search knows) (λ c κs. search knows) (λ c κs. search knows) (λ c κs. search knows)
    (λ c κs. search knows) (λ c. search knows) (λ c. search knows) (λ c. search knows))
