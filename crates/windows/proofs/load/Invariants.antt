use lib.ListN.{length}
use Rattle.windows.proofs.WindowRounds.{Writing, residues}
use Rattle.windows.proofs.load.Given as goal

abbrev pub invariant-loop-j : goal.invariant-loop-j
invariant-loop-j l = Writing (residues l.f l.n) l.at (length l.f) l.initial.w l.w l.j
