use Rattle.test_lines.proofs.LineRounds.{Spelling}
use Rattle.test_lines.proofs.spelt64.Given as goal

abbrev pub invariant-loop-i : goal.invariant-loop-i
invariant-loop-i l = Spelling l.text l.at l.end l.x l.i
