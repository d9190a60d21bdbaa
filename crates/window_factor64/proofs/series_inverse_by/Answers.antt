use Rattle.window_factor.proofs.SeriesRounds.{series}
use Rattle.window_factor64.proofs.series_inverse_by.Goals as goal

pub loop-j-preserved : goal.loop-j-preserved
loop-j-preserved c = search series

pub series_word-requires : goal.series_word-requires
series_word-requires c = search series

pub loop-j-init : goal.loop-j-init
loop-j-init c = search series

pub returns : goal.returns
returns c = search series
