use borrow.Author.Rules.{rules}
use Rattle.divisor_stages.proofs.Cases.{clearings}
use Rattle.divisor_stages64.proofs.clear_contents.Statement.{statement}
use Rattle.divisor_stages64.proofs.clear_contents.Tie as tie

pub clear_contents_spec : {M : Type 1} → statement M
clear_contents_spec = tie.close (tie.spec (λ c. search rules) (λ c. search rules) (λ c. search rules) (λ c. search rules)
    (λ c. search rules) (λ c κs. search rules) (λ c. search rules) (λ c. (search clearings, search rules)) (λ c κs. search clearings)
    (λ c κs. search clearings) (λ c κs. search clearings) (λ c. search rules) (λ c. search rules) (λ c. search rules) (λ c. search rules)
    (λ c. (search clearings, search rules)) (λ c. search rules) (λ c. (search clearings, search rules)) (λ c. search rules)
    (λ c. (search clearings, search rules)))
