use Rattle.windows64.proofs.Multiples.{holds}
use Rattle.windows64.proofs.add_pair.Goals as goal

pub add_pair_held-requires-clause-formed : goal.add_pair_held-requires-clause-formed
add_pair_held-requires-clause-formed c = search holds
