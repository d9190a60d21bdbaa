use Rattle.modulus_windows.proofs.Forms.{forms}
use Rattle.modulus_windows.proofs.combine_pair.Goals as goal

pub returns-then-m-ne0 : goal.returns-then-m-ne0
returns-then-m-ne0 c = search forms

pub returns : goal.returns
returns c = search forms
