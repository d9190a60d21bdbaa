use Rattle.windows64.proofs.Multiples.{holds}
use Rattle.windows64.proofs.add_pair_held.Goals as goal

pub loop-j-preserved : goal.loop-j-preserved
loop-j-preserved c = search holds
