use Rattle.text_reader_service.proofs.Copying.{Copied}
use Rattle.text_reader_service.proofs.put_words.Given as goal

abbrev pub invariant-loop-i : goal.invariant-loop-i
invariant-loop-i l = Copied l.f l.count l.fn.words l.words l.i
