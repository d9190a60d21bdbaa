use Rattle.modulus.proofs.Valuing.{answers}
use Rattle.modulus.proofs.difference.Statement.{statement}
use Rattle.modulus.proofs.difference.Tie as tie

pub difference_spec : {M : Type 1} → statement M
difference_spec = tie.close (tie.spec (λ c. search answers) (λ c. search answers) (λ c. search answers) (λ c. search answers))
