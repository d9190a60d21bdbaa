use Rattle.degree_service.proofs.Degrees.{Descending}
use Rattle.degree_service.proofs.extent_of.Given as goal

abbrev pub invariant-loop-j : goal.invariant-loop-j
invariant-loop-j l = Descending l.f l.j
