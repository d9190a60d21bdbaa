use borrow.Author.Rules.{rules}
use Rattle.divisor_stages.proofs.Cases.{leadings}
use Rattle.divisor_stages64.proofs.unit_lead.Statement.{statement}
use Rattle.divisor_stages64.proofs.unit_lead.Tie as tie

pub unit_lead_spec : {M : Type 1} → statement M
unit_lead_spec = tie.close (tie.spec (λ c. search rules) (λ c. search rules) (λ c. search rules) (λ c. search rules) (λ c. search rules)
    (λ c κs. search rules) (λ c. search rules) (λ c. search leadings) (λ c. search rules) (λ c. search leadings) (λ c κs. search leadings)
    (λ c. search rules) (λ c. search rules) (λ c. search rules) (λ c. search rules) (λ c. search rules) (λ c. search leadings)
    (λ c. search rules) (λ c. search leadings))
