use Rattle.std.proofs.Common.{rules}
use Rattle.montgomery64.proofs.Rules.{sums}
use Rattle.montgomery64.proofs.sum_three.Statement.{statement}
use Rattle.montgomery64.proofs.sum_three.Tie as tie

pub sum_three_spec : {M : Type 1} → statement M
sum_three_spec = tie.close (tie.spec (λ c κs. search rules) (λ c κs. search sums fits 20000) (λ c κs. search sums fits 20000)
    (λ c κs. search sums fits 20000) (λ c. search sums fits 20000))
