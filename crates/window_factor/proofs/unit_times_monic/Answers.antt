use Rattle.window_factor.proofs.Rounds.{loop_rounds, addings}
use Rattle.window_factor.proofs.unit_times_monic.Goals as goal

pub loop-init : goal.loop-init
loop-init c = search loop_rounds

pub divide_round-requires : goal.divide_round-requires
divide_round-requires c = (c.requires.known.0, search loop_rounds)

pub returns-then-divide_round-t : goal.returns-then-divide_round-t
returns-then-divide_round-t c = search loop_rounds

pub add_scaled-requires-clause-pair_asked : goal.add_scaled-requires-clause-pair_asked
add_scaled-requires-clause-pair_asked c = (search addings, search addings)

pub loop-preserved : goal.loop-preserved
loop-preserved c = search loop_rounds

pub returns : goal.returns
returns c = search loop_rounds
