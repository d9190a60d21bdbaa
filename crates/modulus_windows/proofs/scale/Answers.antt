use Rattle.modulus_windows.proofs.Forms.{forms}
use Rattle.modulus_windows.proofs.scale.Goals as goal

pub returns-then-m-eq0 : goal.returns-then-m-eq0
returns-then-m-eq0 c = search forms

pub returns : goal.returns
returns c = search forms
