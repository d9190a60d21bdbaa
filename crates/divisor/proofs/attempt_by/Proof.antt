use borrow.Author.Rules.{rules}
use Rattle.divisor.proofs.Cases.{recorded}
use Rattle.divisor.proofs.attempt_by.Statement.{statement}
use Rattle.divisor.proofs.attempt_by.Tie as tie

pub attempt_by_spec : {M : Type 1} → statement M
attempt_by_spec = tie.close (tie.spec (λ c κs. search rules) (λ c κs. (search rules, (search recorded, search rules))) (λ c. search rules)
    (λ c. (search recorded, search rules)))
