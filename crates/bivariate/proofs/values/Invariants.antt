use Rattle.bivariate.proofs.Interpolating.{Values}
use Rattle.bivariate.proofs.values.Given as goal

abbrev pub invariant-loop-z : goal.invariant-loop-z
invariant-loop-z l = Values l.m.n l.last l.f l.s.d l.s.a l.g l.s.e l.s.b l.initial.out l.initial.w l.out l.w l.z
