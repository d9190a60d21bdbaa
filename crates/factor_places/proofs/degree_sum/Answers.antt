use Rattle.factor_places.proofs.Places.{placing}
use Rattle.factor_places.proofs.degree_sum.Goals as goal

pub loop-i-init : goal.loop-i-init
loop-i-init c = search placing

pub loop-i-preserved : goal.loop-i-preserved
loop-i-preserved c = search placing
