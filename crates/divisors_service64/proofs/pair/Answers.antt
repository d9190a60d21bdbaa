use Rattle.divisors_service.proofs.Pieces.{reduced_of}
use Rattle.divisors_service64.proofs.pair.Goals as goal

pub returns-clause-reduced : goal.returns-clause-reduced
returns-clause-reduced c = search reduced_of
