use Rattle.windows.proofs.WindowRounds.{Pairing}
use Rattle.windows.proofs.add_pair_masked.Given as goal

abbrev pub invariant-loop-j : goal.invariant-loop-j
invariant-loop-j l = Pairing l.n l.c l.e l.src l.dst l.len l.initial.w l.w l.j l.y
