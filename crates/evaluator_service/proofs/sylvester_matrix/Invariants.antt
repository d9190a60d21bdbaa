use Rattle.std.specs.Prelude.{[]}
use Rattle.evaluator_matrices.proofs.Arrays.{ArrayWritten}
use Rattle.evaluator_service.specs.Sylvester.{HoldsSylvesterRow}
use Rattle.evaluator_service.proofs.sylvester_matrix.Given as goal

abbrev pub invariant-loop-r : goal.invariant-loop-r
invariant-loop-r l = ArrayWritten [] (HoldsSylvesterRow l.f l.g) 8 l.r l.m
