use Rattle.cofactor_band.proofs.ColumnRounds.{rounds}
use Rattle.cofactor_band.proofs.columns.Goals as goal

pub loop-j-init : goal.loop-j-init
loop-j-init c = search rounds

pub returns : goal.returns
returns c = search rounds
