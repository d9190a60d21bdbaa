use Rattle.modulus_windows64.proofs.Loops.{loops}
use Rattle.modulus_windows64.proofs.set_scaled.Goals as goal

pub loop-j-preserved : goal.loop-j-preserved
loop-j-preserved c = search loops
