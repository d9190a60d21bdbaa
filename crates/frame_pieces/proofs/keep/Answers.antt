use Rattle.frame_pieces.proofs.PendingLines.{part_kept, line_put, holds}
use Rattle.frame_pieces.proofs.keep.Goals as goal

pub returns-then-pending-gt-LONGEST-clause-keeps_pending : goal.returns-then-pending-gt-LONGEST-clause-keeps_pending
returns-then-pending-gt-LONGEST-clause-keeps_pending c = search holds

pub returns-then-part-pending-clause-keeps_pending : goal.returns-then-part-pending-clause-keeps_pending
returns-then-part-pending-clause-keeps_pending c = search holds

pub returns-clause-keeps_pending : goal.returns-clause-keeps_pending
returns-clause-keeps_pending c = part_kept c.if-pending-gt-LONGEST.false c.if-part-pending.false c.requires _ c.copy_from_slice.ensures.after

pub returns-clause-line_after : goal.returns-clause-line_after
returns-clause-line_after c = line_put c.if-pending-gt-LONGEST.false c.if-part-pending.false c.requires _ c.copy_from_slice.ensures.after
