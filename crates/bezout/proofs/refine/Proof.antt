use Rattle.bezout.proofs.Inverses.{inverses}
use Rattle.bezout.proofs.refine.Statement.{statement}
use Rattle.bezout.proofs.refine.Tie as tie

pub refine_spec : {M : Type 1} → statement M
refine_spec = tie.close (tie.spec (λ c. search inverses) (λ c. search inverses) (λ c. search inverses) (λ c. search inverses)
    (λ c. search inverses))
