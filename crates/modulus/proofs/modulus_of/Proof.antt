use Rattle.modulus.proofs.ModulusFound.{finding}
use Rattle.modulus.proofs.modulus_of.Statement.{statement}
use Rattle.modulus.proofs.modulus_of.Tie as tie

pub modulus_of_spec : {M : Type 1} → statement M
modulus_of_spec = tie.close (tie.spec (λ c. search finding) (λ c κs. search finding) (λ c. search finding) (λ c κs. search finding)
    (λ c κs. search finding) (λ c. search finding) (λ c. search finding) (λ c. search finding) (λ c. search finding))
