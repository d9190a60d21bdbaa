use Rattle.std.proofs.Common.{◌<◌}
use Rattle.band_clearing.proofs.pivot.Given as goal

abbrev pub invariant-loop-k : goal.invariant-loop-k
invariant-loop-k l = l.best < l.l
