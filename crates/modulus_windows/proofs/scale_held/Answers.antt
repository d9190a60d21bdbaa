use Rattle.modulus_windows.proofs.Holding.{holding}
use Rattle.modulus_windows.proofs.scale_held.Goals as goal

pub loop-j-preserved : goal.loop-j-preserved
loop-j-preserved c = search holding
