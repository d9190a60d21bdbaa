use Rattle.montgomery64.proofs.Rules.{montgomery_rules}
use Rattle.montgomery64.proofs.inverse_of.Statement.{statement}
use Rattle.montgomery64.proofs.inverse_of.Tie as tie

pub inverse_of_spec : {M : Type 1} → statement M
inverse_of_spec = tie.close (tie.spec (λ c. search montgomery_rules) (λ c κs. search montgomery_rules) (λ c κs. search montgomery_rules) (λ c κs. search montgomery_rules)
    (λ c κs. search montgomery_rules) (λ c κs. search montgomery_rules) (λ c. search montgomery_rules))
