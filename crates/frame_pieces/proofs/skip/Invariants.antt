use Rattle.std.proofs.Common.{◌-◌, length}
use Rattle.frame_pieces.specs.Newlines.{Clear}
use Rattle.frame_pieces.proofs.skip.Given as goal

abbrev pub invariant-loop-j : goal.invariant-loop-j
invariant-loop-j l = Clear l.piece l.from l.j

abbrev pub decreases-loop-j : goal.decreases-loop-j
decreases-loop-j l = length l.piece - l.j
