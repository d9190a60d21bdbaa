use Rattle.montgomery64.proofs.Rules.{montgomery_rules}
use Rattle.montgomery64.proofs.refine.Statement.{statement}
use Rattle.montgomery64.proofs.refine.Tie as tie

pub refine_spec : {M : Type 1} → statement M
refine_spec = tie.close (tie.spec (λ c κs. search montgomery_rules) (λ c κs. search montgomery_rules) (λ c κs. search montgomery_rules) (λ c. search montgomery_rules))
