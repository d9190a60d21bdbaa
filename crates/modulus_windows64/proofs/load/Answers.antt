use Rattle.modulus_windows64.proofs.Loops.{loops}
use Rattle.modulus_windows64.proofs.load.Goals as goal

pub returns : goal.returns
returns c = search loops
