use Rattle.test_lines.proofs.LineRounds.{Passed}
use Rattle.test_lines.proofs.ending.Given as goal

abbrev pub invariant-loop-i : goal.invariant-loop-i
invariant-loop-i l = Passed l.x l.w l.l l.i
