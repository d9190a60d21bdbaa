use Rattle.division_service.proofs.Quotients.{divides}
use Rattle.division_service64.proofs.divide.Goals as goal

pub returns : goal.returns
returns c = search divides
