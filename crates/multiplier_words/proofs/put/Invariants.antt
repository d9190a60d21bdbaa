use Rattle.modulus.specs.Values.{values}
use Rattle.multiplier_words.proofs.Putting.{Putting}
use Rattle.multiplier_words.proofs.put.Given as goal

abbrev pub invariant-loop-j : goal.invariant-loop-j
invariant-loop-j l = Putting l.m.n l.c l.at l.len (values l.m l.w) l.initial.u l.u l.j
