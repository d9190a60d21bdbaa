use Rattle.factors_service.proofs.Padding.{padding}
use Rattle.factors_service.proofs.padded.Goals as goal

pub loop-i-preserved : goal.loop-i-preserved
loop-i-preserved c = search padding

pub returns : goal.returns
returns c = search padding
