use Rattle.hexadecimal.proofs.Spelling.{writes}
use Rattle.hexadecimal.proofs.write.Goals as goal

pub loop-i-preserved : goal.loop-i-preserved
loop-i-preserved c = search writes

pub returns : goal.returns
returns c = search writes
