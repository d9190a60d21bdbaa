use Rattle.modulus_windows.proofs.Adding.{additions}
use Rattle.modulus_windows.proofs.add_pair.Goals as goal

pub returns-then-m-ne0 : goal.returns-then-m-ne0
returns-then-m-ne0 c = search additions
