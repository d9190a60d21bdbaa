use Rattle.residue.proofs.Rules.{joins}
use Rattle.residue64.proofs.idempotent.Statement.{statement}
use Rattle.residue64.proofs.idempotent.Tie as tie

pub idempotent_spec : {M : Type 1} → statement M
idempotent_spec = tie.close (tie.spec (λ c κs. search joins) (λ c. search joins) (λ c. search joins) (λ c. search joins)
    (λ c. search joins))
