use Rattle.std.proofs.Common.{refl}
use Rattle.text_reader_service.proofs.Copying.{copied_next}
use Rattle.text_reader_service.proofs.put_words.Goals as goal

pub loop-i-preserved : goal.loop-i-preserved
loop-i-preserved c = copied_next c.loop-i.invariant c.requires.0 c.requires.1 c.loop-i-test.true refl refl
