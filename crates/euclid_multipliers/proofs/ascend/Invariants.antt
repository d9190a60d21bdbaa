use Rattle.euclid_multipliers.specs.StepsInBuffer.{Raising}
use Rattle.euclid_multipliers.proofs.ascend.Given as goal

abbrev pub invariant-loop-i : goal.invariant-loop-i
invariant-loop-i l = Raising l.m l.h l.fn.j l.initial.o l.initial.w l.i l.o l.w
