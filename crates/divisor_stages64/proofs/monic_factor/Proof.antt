use borrow.Author.Rules.{rules}
use Rattle.divisor_stages.proofs.Cases.{leadings}
use Rattle.divisor_stages64.proofs.monic_factor.Statement.{statement}
use Rattle.divisor_stages64.proofs.monic_factor.Tie as tie

pub monic_factor_spec : {M : Type 1} → statement M
monic_factor_spec = tie.close (tie.spec (λ c κs. search rules) (λ c. search rules) (λ c. search rules) (λ c. search rules)
    (λ c. search rules) (λ c. search rules) (λ c. search rules) (λ c. search rules)
    (λ c κs. ((search rules, (search rules, (search rules, search leadings))), search leadings)) (λ c. search rules) (λ c. search rules)
    (λ c κs. search rules) (λ c. search rules) (λ c. search leadings))
