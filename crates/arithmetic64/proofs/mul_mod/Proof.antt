use borrow.Author.Rules.{rules}
use Rattle.reduction.proofs.Reciprocals.{modulo}
use Rattle.arithmetic64.proofs.mul_mod.Statement.{statement}
use Rattle.arithmetic64.proofs.mul_mod.Tie as tie

pub mul_mod_spec : {M : Type 1} → statement M
mul_mod_spec = tie.close (tie.spec (λ c κs. search rules) (λ c κs. search rules) (λ c. search (rules, modulo)))
