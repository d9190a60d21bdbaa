use Rattle.residue.proofs.Rules.{cofactors}
use Rattle.residue.proofs.multiple.Statement.{statement}
use Rattle.residue.proofs.multiple.Tie as tie

pub multiple_spec : {M : Type 1} → statement M
multiple_spec = tie.close (tie.spec (λ c. search cofactors) (λ c. search cofactors) (λ c. search cofactors) (λ c. search cofactors)
    (λ c. search cofactors) (λ c. search cofactors))
