use Rattle.window_factor.proofs.HighestCoefficient.{Searching}
use Rattle.window_factor.proofs.highest_of.Given as goal

abbrev pub invariant-loop-t : goal.invariant-loop-t
invariant-loop-t l = Searching l.n l.s l.t
