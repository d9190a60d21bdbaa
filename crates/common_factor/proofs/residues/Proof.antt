use borrow.Author.Rules.{rules}
use Rattle.common_factor.proofs.Steps.{steps}
use Rattle.common_factor.proofs.residues.Statement.{statement}
use Rattle.common_factor.proofs.residues.Tie as tie

pub residues_spec : {M : Type 1} → statement M
residues_spec = tie.close (tie.spec (λ c. search rules) (λ c κs. search rules) (λ c. search rules) (λ c κs. search rules)
    (λ c. search rules) (λ c. search steps))
