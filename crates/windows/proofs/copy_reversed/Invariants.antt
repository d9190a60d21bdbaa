use Rattle.windows.proofs.WindowRounds.{Writing, backwards}
use Rattle.windows.proofs.copy_reversed.Given as goal

abbrev pub invariant-loop-j : goal.invariant-loop-j
invariant-loop-j l = Writing (backwards l.initial.w l.src l.len) l.dst l.len l.initial.w l.w l.j
