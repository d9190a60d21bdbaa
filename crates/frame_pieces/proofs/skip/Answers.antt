use Rattle.frame_pieces.proofs.PendingLines.{scans}
use Rattle.frame_pieces.proofs.skip.Goals as goal

pub loop-j-init : goal.loop-j-init
loop-j-init c = search scans

pub loop-j-preserved : goal.loop-j-preserved
loop-j-preserved c = search scans
