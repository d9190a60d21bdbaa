use Rattle.unit_monic_service.proofs.HandingRounds.{factoring}
use Rattle.unit_monic_service64.proofs.leading_place.Goals as goal

pub returns-then-not-nilpotent : goal.returns-then-not-nilpotent
returns-then-not-nilpotent c = search factoring

pub returns : goal.returns
returns c = search factoring
