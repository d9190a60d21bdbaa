use Rattle.unit_monic_service.proofs.HandingRounds.{factoring}
use Rattle.unit_monic_service.proofs.hand_out.Goals as goal

pub loop-k-init : goal.loop-k-init
loop-k-init c = search factoring

pub loop-k-preserved : goal.loop-k-preserved
loop-k-preserved c = search factoring

pub returns : goal.returns
returns c = search factoring
