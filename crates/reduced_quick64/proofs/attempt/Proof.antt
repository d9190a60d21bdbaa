use borrow.Author.Rules.{rules}
use Rattle.reduced_quick.proofs.QuickAttempts.{both_tries}
use Rattle.reduced_quick64.proofs.attempt.Statement.{statement}
use Rattle.reduced_quick64.proofs.attempt.Tie as tie

pub attempt_spec : {M : Type 1} → statement M
attempt_spec = tie.close (tie.spec (λ c κs. (search rules, search both_tries)) (λ c. search rules) (λ c. search rules) (λ c. search rules)
    (λ c. (search both_tries, search rules)) (λ c κs. (search rules, search rules)) (λ c. search rules) (λ c. search rules)
    (λ c. search rules) (λ c. (search both_tries, search rules)))
