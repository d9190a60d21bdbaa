use Rattle.test_lines.proofs.LineRounds.{spells}
use Rattle.test_lines.proofs.spelt64.Goals as goal

pub loop-i-init : goal.loop-i-init
loop-i-init c = search spells

pub loop-i-preserved : goal.loop-i-preserved
loop-i-preserved c = search spells
