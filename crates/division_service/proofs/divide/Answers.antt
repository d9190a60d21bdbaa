use Rattle.division_service.proofs.Quotients.{divides}
use Rattle.division_service.proofs.divide.Goals as goal

pub returns : goal.returns
returns c = search divides
