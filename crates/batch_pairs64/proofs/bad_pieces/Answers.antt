use Rattle.batch_pairs.proofs.Sizes.{quotient_differs}
use Rattle.batch_pairs64.proofs.bad_pieces.Goals as goal

pub returns-then-length-d : goal.returns-then-length-d
returns-then-length-d c = search quotient_differs
