use Rattle.frame_pieces.proofs.PendingLines.{scans}
use Rattle.frame_pieces.proofs.find_newline.Goals as goal

pub loop-j-preserved : goal.loop-j-preserved
loop-j-preserved c = search scans
