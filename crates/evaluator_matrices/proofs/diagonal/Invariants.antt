use Rattle.evaluator_matrices.proofs.Columns.{DiagonalProduct}
use Rattle.evaluator_matrices.proofs.diagonal.Given as goal

abbrev pub invariant-loop-k : goal.invariant-loop-k
invariant-loop-k l = DiagonalProduct l.m.n l.size l.a l.x l.k
