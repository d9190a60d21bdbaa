use borrow.Author.Rules.{rules}
use Rattle.resultant_steps.proofs.SideBySide.{copying}
use Rattle.resultant_steps64.proofs.copy_pair.Statement.{statement}
use Rattle.resultant_steps64.proofs.copy_pair.Tie as tie

pub copy_pair_spec : {M : Type 1} → statement M
copy_pair_spec = tie.close (tie.spec (λ c κs. search rules) (λ c. search rules) (λ c κs. search rules) (λ c. search rules)
    (λ c. search copying))
