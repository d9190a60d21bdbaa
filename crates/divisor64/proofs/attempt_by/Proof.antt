use borrow.Author.Rules.{rules}
use Rattle.divisor64.proofs.Cases.{recorded}
use Rattle.divisor64.proofs.attempt_by.Statement.{statement}
use Rattle.divisor64.proofs.attempt_by.Tie as tie

pub attempt_by_spec : {M : Type 1} → statement M
attempt_by_spec = tie.close (tie.spec (λ c κs. search rules) (λ c κs. (search rules, search recorded)) (λ c. search rules)
    (λ c. (search recorded, search rules)))
