use borrow.Author.Rules.{rules}
use Rattle.reduction.proofs.Reciprocals.{modulo}
use Rattle.arithmetic64.proofs.power.Statement.{statement}
use Rattle.arithmetic64.proofs.power.Tie as tie

pub power_spec : {M : Type 1} → statement M
power_spec = tie.close (tie.spec (λ c κs. search rules) (λ c κs. search rules) (λ c. search (rules, modulo)))
