use Rattle.window_division.proofs.Rules.{divisions, steps}
use Rattle.window_division.proofs.divide_keeping.Goals as goal

pub loop-s-init : goal.loop-s-init
loop-s-init c = search divisions

pub add_pair-requires-clause-pair_asked : goal.add_pair-requires-clause-pair_asked
add_pair-requires-clause-pair_asked c = (search steps, search steps)

pub loop-s-preserved : goal.loop-s-preserved
loop-s-preserved c = search divisions

pub returns-then-s-eq0 : goal.returns-then-s-eq0
returns-then-s-eq0 c = search divisions

pub add_scaled-requires-clause-pair_asked : goal.add_scaled-requires-clause-pair_asked
add_scaled-requires-clause-pair_asked c = (search steps, search steps)

pub returns : goal.returns
returns c = search divisions
