use Rattle.resultant_euclid.proofs.Steps.{signs}
use Rattle.resultant_euclid.proofs.with_sign.Statement.{statement}
use Rattle.resultant_euclid.proofs.with_sign.Tie as tie

pub with_sign_spec : {M : Type 1} → statement M
with_sign_spec = tie.close (tie.spec (λ c. search signs) (λ c κs. search signs) (λ c. search signs))
