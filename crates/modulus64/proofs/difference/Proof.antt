use Rattle.modulus64.proofs.Answering.{answers}
use Rattle.modulus64.proofs.difference.Statement.{statement}
use Rattle.modulus64.proofs.difference.Tie as tie

pub difference_spec : {M : Type 1} → statement M
difference_spec = tie.close (tie.spec (λ c κs. search answers) (λ c. search answers))
