use borrow.Author.Rules.{rules}
use Rattle.divisor.proofs.Halves.{half_after}
use Rattle.divisor.proofs.Cases.{trying}
use Rattle.divisor64.proofs.Cases.{attempts}
use Rattle.divisor64.proofs.both_halves.Statement.{statement}
use Rattle.divisor64.proofs.both_halves.Tie as tie

pub both_halves_spec : {M : Type 1} → statement M
both_halves_spec = tie.close (tie.spec (λ c κs. search rules) (λ c. search rules) (λ c. search rules)
    (λ c κs. (search rules, (search rules, search trying))) (λ c. search rules)
    (λ c κs. (search rules, (search rules, (search half_after, search trying))))
    (λ c. search rules) (λ c. (search attempts, search rules)) (λ c. search rules) (λ c. (search attempts, search rules))
    (λ c. search rules) (λ c. search rules))
