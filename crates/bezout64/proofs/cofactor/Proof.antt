use Rattle.bezout64.proofs.Inverses.{inverses}
use Rattle.bezout64.proofs.cofactor.Statement.{statement}
use Rattle.bezout64.proofs.cofactor.Tie as tie

pub cofactor_spec : {M : Type 1} → statement M
cofactor_spec = tie.close (tie.spec (λ c. search inverses) (λ c κs. search inverses) (λ c. search inverses) (λ c. search inverses)
    (λ c κs. search inverses) (λ c. search inverses))
