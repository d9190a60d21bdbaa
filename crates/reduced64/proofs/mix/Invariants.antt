use Rattle.reduced.proofs.MixRounds.{Mixing}
use Rattle.reduced64.proofs.mix.Given as goal

abbrev pub invariant-loop-j : goal.invariant-loop-j
invariant-loop-j l = Mixing l.m.n l.a l.s l.initial.u l.u l.j
