use Rattle.windows.specs.Window.{mulBy}
use Rattle.windows.proofs.WindowRounds.{Moving}
use Rattle.windows.proofs.scale_masked.Given as goal

abbrev pub invariant-loop-j : goal.invariant-loop-j
invariant-loop-j l = Moving (mulBy l.n l.c) l.src l.dst l.len l.initial.w l.w l.j
