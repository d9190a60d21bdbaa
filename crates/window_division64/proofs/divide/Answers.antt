use Rattle.window_division.proofs.Rules.{divisions}
use Rattle.window_division64.proofs.divide.Goals as goal

pub loop-s-init : goal.loop-s-init
loop-s-init c = search divisions

pub add_pair-requires-clause-pair_asked : goal.add_pair-requires-clause-pair_asked
add_pair-requires-clause-pair_asked c = search divisions

pub loop-s-preserved : goal.loop-s-preserved
loop-s-preserved c = search divisions

pub returns-then-s-eq0 : goal.returns-then-s-eq0
returns-then-s-eq0 c = search divisions

pub add_scaled-requires-clause-clear : goal.add_scaled-requires-clause-clear
add_scaled-requires-clause-clear c = search divisions

pub returns : goal.returns
returns c = search divisions
