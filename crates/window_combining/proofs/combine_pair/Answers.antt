use Rattle.window_combining.proofs.Steps.{combinations}
use Rattle.window_combining.proofs.combine_pair.Goals as goal

pub returns-then-z-n : goal.returns-then-z-n
returns-then-z-n c = search combinations

pub loop-j-preserved : goal.loop-j-preserved
loop-j-preserved c = search combinations
