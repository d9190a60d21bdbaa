use Rattle.factor_places.proofs.Places.{placing}
use Rattle.factor_places.proofs.place_of.Goals as goal

pub returns-then-number-i : goal.returns-then-number-i
returns-then-number-i c = search placing

pub loop-i-preserved : goal.loop-i-preserved
loop-i-preserved c = search placing

pub returns : goal.returns
returns c = search placing
