use Rattle.window_combining64.proofs.Rules.{combinations}
use Rattle.window_combining64.proofs.combine_plain.Goals as goal

pub loop-j-preserved : goal.loop-j-preserved
loop-j-preserved c = search combinations
