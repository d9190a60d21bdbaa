use Rattle.bivariate.proofs.Evaluating.{Groups}
use Rattle.bivariate.proofs.evaluate.Given as goal

abbrev pub invariant-loop-i : goal.invariant-loop-i
invariant-loop-i l = Groups l.m.n l.at l.d l.a l.z l.f l.initial.w l.w l.i
