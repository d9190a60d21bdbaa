use Rattle.bezout.proofs.Inverses.{inverses}
use Rattle.bezout.proofs.inverse_of_odd.Statement.{statement}
use Rattle.bezout.proofs.inverse_of_odd.Tie as tie

pub inverse_of_odd_spec : {M : Type 1} → statement M
inverse_of_odd_spec = tie.close (tie.spec (λ c κs. search inverses) (λ c κs. search inverses) (λ c κs. search inverses)
    (λ c κs. search inverses) (λ c. search inverses))
