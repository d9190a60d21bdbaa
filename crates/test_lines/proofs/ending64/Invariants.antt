use Rattle.test_lines.proofs.LineRounds.{Passed}
use Rattle.test_lines.proofs.ending64.Given as goal

abbrev pub invariant-loop-j : goal.invariant-loop-j
invariant-loop-j l = Passed l.x l.w l.all l.j
