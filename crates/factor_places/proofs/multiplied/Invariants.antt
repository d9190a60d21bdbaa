use Rattle.factor_places.proofs.Places.{Multiplied}
use Rattle.factor_places.proofs.multiplied.Given as goal

abbrev pub invariant-loop-i : goal.invariant-loop-i
invariant-loop-i l = Multiplied l.n l.resultant l.p l.i
