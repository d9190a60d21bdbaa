use Rattle.text_gathering.proofs.Gathering.{gathers}
use Rattle.text_gathering.proofs.gather.Goals as goal

pub loop-b-preserved : goal.loop-b-preserved
loop-b-preserved c = search gathers

pub returns : goal.returns
returns c = search gathers
