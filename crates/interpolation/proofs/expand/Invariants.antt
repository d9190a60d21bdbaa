use Rattle.interpolation.specs.NewtonWords.{Grown}
use Rattle.interpolation.proofs.expand.Given as goal

abbrev pub invariant-loop-j : goal.invariant-loop-j
invariant-loop-j l = Grown l.n l.b l.j l.initial.w l.w
