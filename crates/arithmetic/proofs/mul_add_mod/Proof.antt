use Rattle.arithmetic.proofs.Widths.{words}
use Rattle.arithmetic.proofs.mul_add_mod.Statement.{statement}
use Rattle.arithmetic.proofs.mul_add_mod.Tie as tie

pub mul_add_mod_spec : {M : Type 1} → statement M
mul_add_mod_spec = tie.close (tie.spec (λ c. search words) (λ c. search words) (λ c κs. search words) (λ c. search words))
