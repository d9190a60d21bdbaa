use borrow.Author.Rules.{rules}
use Rattle.divisor_stages.proofs.Cases.{clearings}
use Rattle.divisor_stages64.proofs.modulus_over.Statement.{statement}
use Rattle.divisor_stages64.proofs.modulus_over.Tie as tie

pub modulus_over_spec : {M : Type 1} → statement M
modulus_over_spec = tie.close (tie.spec (λ c. search clearings) (λ c. search rules) (λ c κs. search rules) (λ c. search rules))
