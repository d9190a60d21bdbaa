use Rattle.windows.proofs.WindowRounds.{leaves}
use Rattle.windows.proofs.copy_reversed.Goals as goal

pub loop-j-preserved : goal.loop-j-preserved
loop-j-preserved c = search leaves
