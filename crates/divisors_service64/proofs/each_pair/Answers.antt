use Rattle.divisors_service.proofs.Pieces.{pairs_next, again}
use Rattle.divisors_service64.proofs.each_pair.Goals as goal

pub loop-i-preserved : goal.loop-i-preserved
loop-i-preserved c = (
  pairs_next c.loop-i.invariant.0 c.loop-i-test.true c.requires.inside c.pair.ensures.reduced,
  again c.loop-i.invariant.1 c.pair.ensures.scratch,
)
