use Rattle.modulus.proofs.Valuing.{answers}
use Rattle.modulus.proofs.enter.Statement.{statement}
use Rattle.modulus.proofs.enter.Tie as tie

pub enter_spec : {M : Type 1} → statement M
enter_spec = tie.close (tie.spec (λ c κs. search answers) (λ c. search answers) (λ c. search answers) (λ c κs. search answers)
    (λ c. search answers))
