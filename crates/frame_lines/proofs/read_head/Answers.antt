use Rattle.frame_lines.proofs.Heads.{heads}
use Rattle.frame_lines.proofs.read_head.Goals as goal

pub returns-then-s-lt-HEAD_LENGTH : goal.returns-then-s-lt-HEAD_LENGTH
returns-then-s-lt-HEAD_LENGTH c = search heads

pub returns-then-s-gt-LONGEST : goal.returns-then-s-gt-LONGEST
returns-then-s-gt-LONGEST c = search heads

pub returns-in_err-number : goal.returns-in_err-number
returns-in_err-number c = rw c.from_residual.ensures (search heads)

pub returns-in_err-kind : goal.returns-in_err-kind
returns-in_err-kind c = rw c.from_residual-in_err-kind.ensures (search heads)

pub read_fields-requires : goal.read_fields-requires
read_fields-requires c = search heads
