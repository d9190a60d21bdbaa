use Rattle.std.proofs.Common.{refl}
use Rattle.text_writer_service.proofs.Putting.{zeroed_next}
use Rattle.text_writer_service.proofs.put_zeros.Goals as goal

pub loop-i-preserved : goal.loop-i-preserved
loop-i-preserved c = zeroed_next c.loop-i.invariant c.requires.1 c.loop-i-test.true refl refl
