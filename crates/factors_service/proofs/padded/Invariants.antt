use Rattle.factors_service.proofs.Padding.{Padded}
use Rattle.factors_service.proofs.padded.Given as goal

abbrev pub invariant-loop-i : goal.invariant-loop-i
invariant-loop-i l = Padded l.h l.words l.i
