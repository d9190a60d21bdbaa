use Rattle.interpolation.specs.NewtonWords.{Passes}
use Rattle.interpolation.proofs.differences.Given as goal

abbrev pub invariant-loop-k : goal.invariant-loop-k
invariant-loop-k l = Passes l.m.n l.b l.k l.initial.w l.w
