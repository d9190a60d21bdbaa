use Rattle.frame_lines.proofs.Heads.{part_other, length_other, fields_read}
use Rattle.frame_lines.proofs.read_fields.Goals as goal

pub returns-in_err-n : goal.returns-in_err-n
returns-in_err-n c = rw c.from_residual.ensures (part_other _ 2 8 c.in_err-n.ensures)

pub returns-in_err-d : goal.returns-in_err-d
returns-in_err-d c = rw c.from_residual-in_err-d.ensures (part_other _ 10 2 c.in_err-d.ensures)

pub returns-in_err-e : goal.returns-in_err-e
returns-in_err-e c = rw c.from_residual-in_err-e.ensures (part_other _ 12 2 c.in_err-e.ensures)

pub returns-then-s-count : goal.returns-then-s-count
returns-then-s-count c = length_other c.requires _ _ c.in_ok-d.ensures c.in_ok-e.ensures c.if-s-count.true

pub returns : goal.returns
returns c = fields_read c.requires _ _ c.in_ok-d.ensures c.in_ok-e.ensures _ c.in_ok-n.ensures c.if-s-count.false
