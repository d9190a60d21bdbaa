use Rattle.reduced.proofs.MixRounds.{runs}
use Rattle.reduced.proofs.mix.Goals as goal

pub loop-j-preserved : goal.loop-j-preserved
loop-j-preserved c = search runs

pub returns : goal.returns
returns c = search runs
