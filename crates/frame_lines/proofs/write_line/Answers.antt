use Rattle.frame_lines.proofs.Putting.{line_put}
use Rattle.frame_lines.proofs.write_line.Goals as goal

pub returns : goal.returns
returns c = search line_put
