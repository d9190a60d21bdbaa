use Rattle.modulus_windows.proofs.Adding.{additions}
use Rattle.modulus_windows.proofs.add_scaled.Goals as goal

pub returns-then-m-ne0 : goal.returns-then-m-ne0
returns-then-m-ne0 c = search additions

pub add_scaled_masked-requires-clause-clear : goal.add_scaled_masked-requires-clause-clear
add_scaled_masked-requires-clause-clear c = search additions

pub add_scaled-requires-clause-clear : goal.add_scaled-requires-clause-clear
add_scaled-requires-clause-clear c = search additions
