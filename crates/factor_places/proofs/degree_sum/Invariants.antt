use Rattle.factor_places.proofs.Places.{Summed}
use Rattle.factor_places.proofs.degree_sum.Given as goal

abbrev pub invariant-loop-i : goal.invariant-loop-i
invariant-loop-i l = Summed l.degree l.s l.i
