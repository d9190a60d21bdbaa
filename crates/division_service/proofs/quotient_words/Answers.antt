use Rattle.division_service.proofs.Quotients.{quotients}
use Rattle.division_service.proofs.quotient_words.Goals as goal

pub loop-s-init : goal.loop-s-init
loop-s-init c = search quotients

pub loop-s-preserved : goal.loop-s-preserved
loop-s-preserved c = search quotients
