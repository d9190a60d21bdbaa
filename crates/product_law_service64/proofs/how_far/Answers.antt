use Rattle.product_law_service.proofs.HowFarReturns.{far}
use Rattle.product_law_service64.proofs.how_far.Goals as goal

pub returns : goal.returns
returns c = search far
