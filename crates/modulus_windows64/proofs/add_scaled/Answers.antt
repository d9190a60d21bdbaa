use Rattle.modulus_windows64.proofs.Loops.{loops}
use Rattle.modulus_windows64.proofs.add_scaled.Goals as goal

pub add_scaled-requires-clause-clear : goal.add_scaled-requires-clause-clear
add_scaled-requires-clause-clear c = search loops
