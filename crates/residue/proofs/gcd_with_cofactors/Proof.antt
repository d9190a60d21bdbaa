use Rattle.residue.proofs.Rules.{cofactors}
use Rattle.residue.proofs.gcd_with_cofactors.Statement.{statement}
use Rattle.residue.proofs.gcd_with_cofactors.Tie as tie

pub gcd_with_cofactors_spec : {M : Type 1} → statement M
gcd_with_cofactors_spec = tie.close (tie.spec (λ c κs. search cofactors) (λ c κs. search cofactors) (λ c κs. search cofactors)
    (λ c κs. search cofactors) (λ c κs. search cofactors) (λ c κs. search cofactors) (λ c κs. search cofactors) (λ c κs. search cofactors)
    (λ c. search cofactors))
