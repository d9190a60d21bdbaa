use Rattle.evaluator_matrices.proofs.Arrays.{ArrayWritten}
use Rattle.evaluator_matrices.proofs.Rows.{less}
use Rattle.evaluator_matrices64.proofs.subtract_multiple.Given as goal

abbrev pub invariant-loop-c : goal.invariant-loop-c
invariant-loop-c l = ArrayWritten 0 (less l.m.n l.q l.x l.y) 8 l.c l.z
