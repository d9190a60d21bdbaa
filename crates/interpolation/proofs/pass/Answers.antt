use mathlib.Core.Path.{refl}
use native.Mathlib.Omega.{arith}
use Rattle.interpolation.proofs.Newton.{sweep_down}
use Rattle.interpolation.proofs.pass.Goals as goal

-- by hand: a search takes more steps than it may
pub loop-s-preserved : goal.loop-s-preserved
loop-s-preserved c =
    sweep_down _ c.loop-s.invariant c.loop-s-test.true (omega arith) c.requires.1.0 c.multiply_add-x.ensures c.multiply.ensures refl
