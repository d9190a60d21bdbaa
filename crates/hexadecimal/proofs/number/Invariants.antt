use Rattle.hexadecimal.proofs.Spelling.{Spelled}
use Rattle.hexadecimal.proofs.number.Given as goal

abbrev pub invariant-loop-i : goal.invariant-loop-i
invariant-loop-i l = Spelled l.s l.at l.count l.i l.x
