use Rattle.window_division.proofs.Rules.{Steps}
use Rattle.window_division64.proofs.divide.Given as goal

abbrev pub invariant-loop-s : goal.invariant-loop-s
invariant-loop-s l = Steps l.m.n l.a l.d l.b l.e l.initial.w l.w l.s

abbrev pub decreases-loop-s : goal.decreases-loop-s
decreases-loop-s l = l.s
