use Rattle.residue.proofs.Rules.{joins}
use Rattle.residue64.proofs.join.Statement.{statement}
use Rattle.residue64.proofs.join.Tie as tie

pub join_spec : {M : Type 1} → statement M
join_spec = tie.close (tie.spec (λ c κs. search joins) (λ c κs. search joins) (λ c κs. search joins) (λ c. search joins))
