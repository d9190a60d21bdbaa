use borrow.Author.Rules.{rules}
use Rattle.divisor.proofs.Cases.{swappings}
use Rattle.divisor64.proofs.swapped.Statement.{statement}
use Rattle.divisor64.proofs.swapped.Tie as tie

pub swapped_spec : {M : Type 1} → statement M
swapped_spec = tie.close (tie.spec (λ c κs. search swappings) (λ c. search rules) (λ c. search rules) (λ c κs. search swappings)
    (λ c. search rules) (λ c. search rules) (λ c. (search swappings, search rules)) (λ c. search rules)
    (λ c. (search swappings, search rules)) (λ c. search rules) (λ c. (search swappings, search rules)))
