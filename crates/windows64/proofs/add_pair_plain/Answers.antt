use Rattle.windows64.proofs.Multiples.{multiples}
use Rattle.windows64.proofs.add_pair_plain.Goals as goal

pub loop-j-preserved : goal.loop-j-preserved
loop-j-preserved c = search multiples
