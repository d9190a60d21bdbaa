use Rattle.bezout.proofs.Inverses.{inverses}
use Rattle.bezout.proofs.cofactor.Statement.{statement}
use Rattle.bezout.proofs.cofactor.Tie as tie

pub cofactor_spec : {M : Type 1} → statement M
cofactor_spec = tie.close (tie.spec (λ c κs. search inverses) (λ c κs. search inverses) (λ c. search inverses) (λ c. search inverses)
    (λ c κs. search inverses) (λ c. search inverses))
