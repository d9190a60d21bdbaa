use Rattle.common_factor.proofs.Strips.{strips}
use Rattle.common_factor.proofs.strip.Statement.{statement}
use Rattle.common_factor.proofs.strip.Tie as tie

pub strip_spec : {M : Type 1} → statement M
strip_spec = tie.close (tie.spec (λ c κs. search strips) (λ c κs. search strips) (λ c. search strips))
