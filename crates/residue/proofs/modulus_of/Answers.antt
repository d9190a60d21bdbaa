use Rattle.std.proofs.Common.{refl, arith, rules}
use Rattle.residue.proofs.Rules.{K_none, leading_bits}
use Rattle.residue.proofs.modulus_of.Goals as goal

pub returns-then-n-eq0 : goal.returns-then-n-eq0
returns-then-n-eq0 c = search (rules, K_none)

pub returns : goal.returns
returns c = (refl, omega (arith, leading_bits 32 c.args.n (omega arith) c.ranges.n.fits))
