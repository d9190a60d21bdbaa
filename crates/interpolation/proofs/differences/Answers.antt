use Rattle.interpolation.proofs.Newton.{passings}
use Rattle.interpolation.proofs.differences.Goals as goal

pub overflow_cast-k : goal.overflow_cast-k
overflow_cast-k c = search passings

pub loop-k-preserved : goal.loop-k-preserved
loop-k-preserved c = search passings
