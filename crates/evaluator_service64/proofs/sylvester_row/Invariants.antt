use Rattle.evaluator_matrices.proofs.Arrays.{ArrayWritten}
use Rattle.evaluator_service.proofs.Filling.{row_word}
use Rattle.evaluator_service64.proofs.sylvester_row.Given as goal

abbrev pub invariant-loop-c : goal.invariant-loop-c
invariant-loop-c l = ArrayWritten 0 (row_word l.f l.g l.r) 8 l.c l.x
