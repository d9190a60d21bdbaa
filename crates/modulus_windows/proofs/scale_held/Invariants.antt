use Rattle.windows.specs.Window.{mulBy}
use Rattle.windows.proofs.WindowRounds.{Moving}
use Rattle.montgomery.specs.Held.{plain}
use Rattle.modulus_windows.proofs.scale_held.Given as goal

abbrev pub invariant-loop-j : goal.invariant-loop-j
invariant-loop-j l = Moving (mulBy l.form.n (plain l.form.n l.c)) l.src l.dst l.len l.initial.w l.w l.j
