use Rattle.windows.proofs.WindowRounds.{masked}
use Rattle.windows.proofs.add_pair_masked.Goals as goal

pub loop-j-preserved : goal.loop-j-preserved
loop-j-preserved c = search masked
