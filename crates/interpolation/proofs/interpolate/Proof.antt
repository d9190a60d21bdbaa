use borrow.Author.Rules.{rules}
use Rattle.interpolation.proofs.Newton.{interpolations}
use Rattle.interpolation.proofs.interpolate.Statement.{statement}
use Rattle.interpolation.proofs.interpolate.Tie as tie

pub interpolate_spec : {M : Type 1} → statement M
interpolate_spec = tie.close (tie.spec (λ c κs. search rules) (λ c κs. search interpolations) (λ c. search rules)
    (λ c. search interpolations))
