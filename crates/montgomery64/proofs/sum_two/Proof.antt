use Rattle.std.proofs.Common.{rules}
use Rattle.montgomery64.proofs.Rules.{pairs}
use Rattle.montgomery64.proofs.sum_two.Statement.{statement}
use Rattle.montgomery64.proofs.sum_two.Tie as tie

pub sum_two_spec : {M : Type 1} → statement M
sum_two_spec = tie.close (tie.spec (λ c κs. search rules) (λ c κs. search pairs fits 20000) (λ c κs. search pairs fits 20000)
    (λ c. search pairs fits 20000) (λ c κs. search pairs fits 20000) (λ c. search pairs fits 20000))
