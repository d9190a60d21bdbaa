use Rattle.modulus.proofs.Valuing.{answers}
use Rattle.modulus.proofs.leave.Statement.{statement}
use Rattle.modulus.proofs.leave.Tie as tie

pub leave_spec : {M : Type 1} → statement M
leave_spec = tie.close (tie.spec (λ c κs. search answers) (λ c. search answers) (λ c. search answers))
