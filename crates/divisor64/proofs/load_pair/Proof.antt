use Rattle.divisor64.proofs.ShownByResultant.{ways}
use Rattle.divisor64.proofs.load_pair.Statement.{statement}
use Rattle.divisor64.proofs.load_pair.Tie as tie

pub load_pair_spec : {M : Type 1} → statement M
load_pair_spec = tie.close (tie.spec (λ c κs. search ways) (λ c κs. search ways) (λ c. search ways) (λ c. search ways))
