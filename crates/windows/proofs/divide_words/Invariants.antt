use Rattle.windows.specs.Window.{quotient_by}
use Rattle.windows.proofs.WindowRounds.{Moving}
use Rattle.windows.proofs.divide_words.Given as goal

abbrev pub invariant-loop-j : goal.invariant-loop-j
invariant-loop-j l = Moving (quotient_by l.c) l.at l.at l.len l.initial.w l.w l.j
