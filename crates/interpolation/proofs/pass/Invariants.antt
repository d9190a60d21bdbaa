use Rattle.interpolation.proofs.Newton.{Sweep}
use Rattle.interpolation.proofs.pass.Given as goal

abbrev pub invariant-loop-s : goal.invariant-loop-s
invariant-loop-s l = Sweep l.m.n l.i l.k l.b l.s l.initial.w l.w
