use native.Mathlib.Omega.{arith}
use Rattle.common_factor.proofs.Strips.{strips, left_step, left_unit}
use Rattle.common_factor.proofs.unit_lead.Goals as goal

pub loop-l-init : goal.loop-l-init
loop-l-init c = search strips

pub returns-then-is_unit : goal.returns-then-is_unit
returns-then-is_unit c = left_unit c.loop-l.invariant c.loop-l-test.true c.requires.1 c.gcd-g.ensures (omega arith) (omega arith)

pub loop-l-preserved : goal.loop-l-preserved
loop-l-preserved c = left_step c.loop-l.invariant c.loop-l-test.true c.gcd-g.ensures (λ e. omega arith)
