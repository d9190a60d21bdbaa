use Rattle.why_service.proofs.WhyReturns.{serving}
use Rattle.why_service.proofs.served.Goals as goal

pub ground-r-requires : goal.ground-r-requires
ground-r-requires c = search serving

pub returns-clause-holds_reason : goal.returns-clause-holds_reason
returns-clause-holds_reason c = search serving
