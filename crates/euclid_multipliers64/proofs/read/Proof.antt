use Rattle.euclid_multipliers.proofs.Logging.{reading}
use borrow.Author.Rules.{rules}
use Rattle.euclid_multipliers64.proofs.read.Statement.{statement}
use Rattle.euclid_multipliers64.proofs.read.Tie as tie

pub read_spec : {M : Type 1} → statement M
read_spec = tie.close (tie.spec (λ c. search rules) (λ c. search rules) (λ c. search rules) (λ c. search rules) (λ c. search rules)
    (λ c. search rules) (λ c. search rules) (λ c. search rules) (λ c. search rules) (λ c. search rules) (λ c. search rules)
    (λ c. search rules) (λ c. search rules) (λ c. search rules) (λ c. search rules) (λ c. search rules) (λ c. search reading)
    (λ c. search rules) (λ c. search rules) (λ c. search reading) (λ c. search rules) (λ c. search reading) (λ c. search rules)
    (λ c. search reading))
