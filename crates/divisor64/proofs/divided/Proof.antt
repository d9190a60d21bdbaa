use borrow.Author.Rules.{rules}
use Rattle.divisor.proofs.Cases.{windows}
use Rattle.divisor64.proofs.divided.Statement.{statement}
use Rattle.divisor64.proofs.divided.Tie as tie

pub divided_spec : {M : Type 1} → statement M
divided_spec = tie.close (tie.spec (λ c. search rules) (λ c κs. search rules) (λ c. search rules) (λ c. search rules) (λ c. search rules)
    (λ c κs. search windows) (λ c. search rules) (λ c. search rules) (λ c. search rules) (λ c. search rules) (λ c. search rules)
    (λ c. (search windows, search rules)) (λ c. search rules) (λ c. (search windows, search rules)) (λ c. search rules)
    (λ c. (search windows, search rules)) (λ c. search rules) (λ c. (search windows, search rules)))
