use Rattle.text_writer_service.proofs.Putting.{Zeroed}
use Rattle.text_writer_service.proofs.put_zeros.Given as goal

abbrev pub invariant-loop-i : goal.invariant-loop-i
invariant-loop-i l = Zeroed l.at l.end l.fn.out l.out l.i
