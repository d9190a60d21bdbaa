use borrow.Author.Rules.{rules}
use Rattle.divisor.proofs.Cases.{half_attempts, fitting}
use Rattle.divisor64.proofs.half.Statement.{statement}
use Rattle.divisor64.proofs.half.Tie as tie

pub half_spec : {M : Type 1} → statement M
half_spec = tie.close (tie.spec (λ c κs. search half_attempts) (λ c κs. search half_attempts) (λ c. search rules) (λ c. search fitting)
    (λ c. search rules) (λ c. search rules) (λ c. search rules) (λ c. (search half_attempts, search rules)) (λ c. search rules)
    (λ c. (search half_attempts, search rules)) (λ c. search rules) (λ c. (search half_attempts, search rules)))
