use Rattle.factor_places.proofs.Places.{Sought}
use Rattle.factor_places.proofs.place_of.Given as goal

abbrev pub invariant-loop-i : goal.invariant-loop-i
invariant-loop-i l = Sought l.k l.number l.i
