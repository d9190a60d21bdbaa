use Rattle.window_combining64.proofs.Rules.{combinations}
use Rattle.window_combining64.proofs.combine_pair.Goals as goal

pub combine_held-requires-clause-formed : goal.combine_held-requires-clause-formed
combine_held-requires-clause-formed c = search combinations
