use Rattle.modulus64.proofs.Answering.{answers}
use Rattle.modulus64.proofs.times.Statement.{statement}
use Rattle.modulus64.proofs.times.Tie as tie

pub times_spec : {M : Type 1} → statement M
times_spec = tie.close (tie.spec (λ c κs. search answers) (λ c. search answers))
