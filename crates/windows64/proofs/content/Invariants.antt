use Rattle.windows.proofs.WindowRounds.{Dividing}
use Rattle.windows64.proofs.content.Given as goal

abbrev pub invariant-loop-x : goal.invariant-loop-x
invariant-loop-x l = Dividing l.n l.s l.c l.x-index
