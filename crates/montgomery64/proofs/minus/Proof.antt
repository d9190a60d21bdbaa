use Rattle.montgomery64.proofs.Rules.{montgomery_rules}
use Rattle.montgomery64.proofs.minus.Statement.{statement}
use Rattle.montgomery64.proofs.minus.Tie as tie

pub minus_spec : {M : Type 1} → statement M
minus_spec = tie.close (tie.spec (λ c κs. search montgomery_rules) (λ c. search montgomery_rules) (λ c κs. search montgomery_rules) (λ c. search montgomery_rules))
