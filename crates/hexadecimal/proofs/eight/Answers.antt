use Rattle.hexadecimal.proofs.Eights.{eights}
use Rattle.hexadecimal.proofs.eight.Goals as goal

pub returns : goal.returns
returns c = search eights
