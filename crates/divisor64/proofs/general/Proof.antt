use borrow.Author.Rules.{rules}
use Rattle.divisor64.proofs.ShownByResultant.{wide_half_asked}
use Rattle.divisor64.proofs.Cases.{attempts}
use Rattle.divisor64.proofs.general.Statement.{statement}
use Rattle.divisor64.proofs.general.Tie as tie

pub general_spec : {M : Type 1} → statement M
general_spec = tie.close (tie.spec (λ c κs. search rules) (λ c. search rules) (λ c. (search attempts, search rules))
    (λ c κs. search attempts) (λ c κs. (search rules, (search rules, search wide_half_asked))) (λ c. search rules) (λ c. search rules))
