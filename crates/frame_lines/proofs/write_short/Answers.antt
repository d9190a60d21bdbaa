use Rattle.frame_lines.proofs.Putting.{short_put}
use Rattle.frame_lines.proofs.write_short.Goals as goal

pub returns : goal.returns
returns c = search short_put
