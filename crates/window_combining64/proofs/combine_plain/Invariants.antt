use Rattle.window_combining.proofs.Steps.{Combining}
use Rattle.window_combining64.proofs.combine_plain.Given as goal

abbrev pub invariant-loop-j : goal.invariant-loop-j
invariant-loop-j l = Combining l.modulus.n l.l l.c l.m l.src l.dst l.len l.initial.w l.w l.j l.y
