use Rattle.hexadecimal.proofs.Spelling.{Writing}
use Rattle.hexadecimal.proofs.write.Given as goal

abbrev pub invariant-loop-i : goal.invariant-loop-i
invariant-loop-i l = Writing l.count l.x l.at l.initial.out l.i l.y l.out
