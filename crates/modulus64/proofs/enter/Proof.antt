use Rattle.modulus64.proofs.Answering.{answers}
use Rattle.modulus64.proofs.enter.Statement.{statement}
use Rattle.modulus64.proofs.enter.Tie as tie

pub enter_spec : {M : Type 1} → statement M
enter_spec = tie.close (tie.spec (λ c κs. search answers) (λ c. search answers))
