use Rattle.evaluator_matrices.proofs.Columns.{columns}
use Rattle.evaluator_matrices64.proofs.diagonal.Goals as goal

pub loop-k-init : goal.loop-k-init
loop-k-init c = search columns

pub loop-k-preserved : goal.loop-k-preserved
loop-k-preserved c = search columns
