use Rattle.montgomery64.proofs.Rules.{montgomery_rules}
use Rattle.montgomery64.proofs.redc.Statement.{statement}
use Rattle.montgomery64.proofs.redc.Tie as tie

pub redc_spec : {M : Type 1} → statement M
redc_spec = tie.close (tie.spec (λ c κs. search montgomery_rules) (λ c κs. search montgomery_rules) (λ c κs. search montgomery_rules) (λ c κs. search montgomery_rules)
    (λ c. search montgomery_rules))
