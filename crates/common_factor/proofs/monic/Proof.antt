use borrow.Author.Rules.{rules}
use Rattle.common_factor.proofs.Scaled.{scalings}
use Rattle.common_factor.proofs.monic.Statement.{statement}
use Rattle.common_factor.proofs.monic.Tie as tie

pub monic_spec : {M : Type 1} → statement M
monic_spec = tie.close (tie.spec (λ c κs. search rules) (λ c. search rules) (λ c. search rules) (λ c. search rules) (λ c κs. search rules)
    (λ c. search rules) (λ c κs. search rules) (λ c. search rules) (λ c. search scalings))
