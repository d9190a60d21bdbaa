use borrow.Author.Rules.{rules}
use Rattle.divisor.proofs.Halves.{half_asked}
use Rattle.divisor.proofs.Cases.{attempts}
use Rattle.divisor.proofs.general.Statement.{statement}
use Rattle.divisor.proofs.general.Tie as tie

pub general_spec : {M : Type 1} → statement M
general_spec = tie.close (tie.spec (λ c κs. search rules) (λ c. search rules) (λ c. (search attempts, search rules))
    (λ c κs. search attempts) (λ c κs. (search rules, (search rules, search half_asked))) (λ c. search rules) (λ c. search rules))
