use Rattle.multiplier_words.proofs.Putting.{puts}
use Rattle.multiplier_words64.proofs.put.Goals as goal

pub loop-j-preserved : goal.loop-j-preserved
loop-j-preserved c = search puts

pub returns : goal.returns
returns c = search puts
