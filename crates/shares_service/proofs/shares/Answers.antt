use Rattle.shares_service.proofs.Frames.{framing}
use Rattle.shares_service.proofs.shares.Goals as goal

pub loop-i-init : goal.loop-i-init
loop-i-init c = search framing

pub give_frame-s-requires-clause-turn_bound : goal.give_frame-s-requires-clause-turn_bound
give_frame-s-requires-clause-turn_bound c = search framing

pub give_frame-s-requires-clause-by_index : goal.give_frame-s-requires-clause-by_index
give_frame-s-requires-clause-by_index c = search framing

pub loop-i-preserved : goal.loop-i-preserved
loop-i-preserved c = search framing
