use Rattle.text_gathering.proofs.Gathering.{Gathering}
use Rattle.text_gathering.proofs.gather.Given as goal

abbrev pub invariant-loop-b : goal.invariant-loop-b
invariant-loop-b l = Gathering l.s l.b-index l.c l.x l.initial.words l.words
