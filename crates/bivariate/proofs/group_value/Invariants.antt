use Rattle.bivariate.proofs.Evaluating.{Tail}
use Rattle.bivariate.proofs.group_value.Given as goal

abbrev pub invariant-loop-j : goal.invariant-loop-j
invariant-loop-j l = Tail l.m.n l.z l.c l.j l.x
