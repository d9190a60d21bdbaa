use Rattle.windows.specs.Window.{reduced_by}
use Rattle.windows.proofs.WindowRounds.{Moving}
use Rattle.windows.proofs.reduce_words.Given as goal

abbrev pub invariant-loop-j : goal.invariant-loop-j
invariant-loop-j l = Moving (reduced_by l.n) l.at l.at l.len l.initial.w l.w l.j
