use Rattle.evaluator_matrices.proofs.Columns.{Triangulating}
use Rattle.evaluator_matrices64.proofs.triangulate.Given as goal

abbrev pub invariant-loop-j : goal.invariant-loop-j
invariant-loop-j l = Triangulating l.m.n l.size l.j l.initial.r l.r
