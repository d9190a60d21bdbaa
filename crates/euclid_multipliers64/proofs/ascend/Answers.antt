use mathlib.Core.Path.{refl}
use native.Mathlib.Omega.{arith}
use Rattle.euclid_multipliers.proofs.Rounds.{rounds, raising_next}
use Rattle.euclid_multipliers64.proofs.ascend.Goals as goal

pub read-x-requires : goal.read-x-requires
read-x-requires c = search rounds

pub lift-o-requires : goal.lift-o-requires
lift-o-requires c = search rounds

-- by hand: a search takes more steps than it may
pub loop-i-preserved : goal.loop-i-preserved
loop-i-preserved c =
    raising_next c.requires.rises c.loop-i.invariant _ refl (omega arith) c.requires.ready.1 c.read-x.ensures c.lift-o.ensures
