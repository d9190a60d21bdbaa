use Rattle.windows.specs.Window.{addMul}
use Rattle.windows.proofs.WindowRounds.{Moving}
use Rattle.windows.proofs.add_scaled_masked.Given as goal

abbrev pub invariant-loop-j : goal.invariant-loop-j
invariant-loop-j l = Moving (addMul l.n l.c) l.src l.dst l.len l.initial.w l.w l.j
