use Rattle.reduction64.proofs.Rules.{sums}
use Rattle.reduction64.proofs.residue.Statement.{statement}
use Rattle.reduction64.proofs.residue.Tie as tie

pub residue_spec : {M : Type 1} → statement M
residue_spec = tie.close (tie.spec (λ c. search sums) (λ c. search sums) (λ c. search sums))
