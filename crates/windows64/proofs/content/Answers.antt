use Rattle.windows.proofs.WindowRounds.{leaves}
use Rattle.windows64.proofs.content.Goals as goal

pub returns-then-c-eq1 : goal.returns-then-c-eq1
returns-then-c-eq1 c = search leaves

pub loop-x-preserved : goal.loop-x-preserved
loop-x-preserved c = search leaves
