use Rattle.interpolation.proofs.Newton.{expansions}
use Rattle.interpolation.proofs.expand.Goals as goal

pub loop-j-init : goal.loop-j-init
loop-j-init c = search expansions

pub loop-j-preserved : goal.loop-j-preserved
loop-j-preserved c = search expansions
