use Rattle.evaluator_matrices.proofs.Columns.{ColumnClearing}
use Rattle.evaluator_matrices.proofs.clear_column.Given as goal

abbrev pub invariant-loop-i : goal.invariant-loop-i
invariant-loop-i l = ColumnClearing l.m.n l.size l.j l.i l.initial.r l.r
