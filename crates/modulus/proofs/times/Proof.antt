use Rattle.modulus.proofs.Valuing.{answers}
use Rattle.modulus.proofs.times.Statement.{statement}
use Rattle.modulus.proofs.times.Tie as tie

pub times_spec : {M : Type 1} → statement M
times_spec = tie.close (tie.spec (λ c κs. search answers) (λ c. search answers) (λ c. search answers) (λ c κs. search answers)
    (λ c. search answers))
