use Rattle.frame_pieces.specs.Newlines.{Clear}
use Rattle.frame_pieces.proofs.find_newline.Given as goal

abbrev pub invariant-loop-j : goal.invariant-loop-j
invariant-loop-j l = Clear l.piece l.from l.j
