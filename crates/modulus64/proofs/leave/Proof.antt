use Rattle.modulus64.proofs.Answering.{answers}
use Rattle.modulus64.proofs.leave.Statement.{statement}
use Rattle.modulus64.proofs.leave.Tie as tie

pub leave_spec : {M : Type 1} → statement M
leave_spec = tie.close (tie.spec (λ c. search answers))
