use Rattle.montgomery64.proofs.Rules.{montgomery_rules}
use Rattle.montgomery64.proofs.enter.Statement.{statement}
use Rattle.montgomery64.proofs.enter.Tie as tie

pub enter_spec : {M : Type 1} → statement M
enter_spec = tie.close (tie.spec (λ c κs. search montgomery_rules) (λ c κs. search montgomery_rules) (λ c. search montgomery_rules))
