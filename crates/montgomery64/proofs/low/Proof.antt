use Rattle.montgomery64.proofs.Rules.{montgomery_rules}
use Rattle.montgomery64.proofs.low.Statement.{statement}
use Rattle.montgomery64.proofs.low.Tie as tie

pub low_spec : {M : Type 1} → statement M
low_spec = tie.close (tie.spec (λ c. search montgomery_rules) (λ c. search montgomery_rules) (λ c. search montgomery_rules) (λ c. search montgomery_rules) (λ c. search montgomery_rules)
    (λ c κs. search montgomery_rules) (λ c. search montgomery_rules))
