use Rattle.euclid_multipliers.proofs.Starting.{started}
use borrow.Author.Rules.{rules}
use Rattle.euclid_multipliers.proofs.start.Statement.{statement}
use Rattle.euclid_multipliers.proofs.start.Tie as tie

pub start_spec : {M : Type 1} → statement M
start_spec = tie.close (tie.spec (λ c κs. search rules) (λ c κs. search rules) (λ c κs. search rules) (λ c. search rules)
    (λ c. search rules) (λ c. search rules) (λ c. search (rules, started)))
