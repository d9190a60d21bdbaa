use Rattle.modulus64.proofs.Answering.{answers}
use Rattle.modulus64.proofs.difference_of.Statement.{statement}
use Rattle.modulus64.proofs.difference_of.Tie as tie

pub difference_of_spec : {M : Type 1} → statement M
difference_of_spec = tie.close (tie.spec (λ c. search answers) (λ c κs. search answers) (λ c. search answers))
