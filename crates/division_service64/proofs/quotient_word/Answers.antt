use Rattle.division_service.proofs.Quotients.{quotients}
use Rattle.division_service64.proofs.quotient_word.Goals as goal

pub returns : goal.returns
returns c = search quotients
