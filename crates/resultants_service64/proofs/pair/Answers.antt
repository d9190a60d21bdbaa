use Rattle.resultants_service.proofs.Pieces.{resultant_of}
use Rattle.resultants_service64.proofs.pair.Goals as goal

pub returns-clause-value : goal.returns-clause-value
returns-clause-value c = search resultant_of
