use Rattle.windows.proofs.WindowRounds.{leaves}
use Rattle.windows.proofs.add_pair.Goals as goal

pub loop-j-preserved : goal.loop-j-preserved
loop-j-preserved c = search leaves
