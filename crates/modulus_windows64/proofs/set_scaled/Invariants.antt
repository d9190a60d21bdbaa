use Rattle.windows.specs.Window.{mulBy}
use Rattle.windows.proofs.WindowRounds.{Moving}
use Rattle.modulus_windows64.proofs.set_scaled.Given as goal

abbrev pub invariant-loop-j : goal.invariant-loop-j
invariant-loop-j l = Moving (mulBy l.m.n l.c) l.src l.dst l.len l.initial.w l.w l.j
