use Rattle.frame_lines.proofs.WordsRead.{Words}
use Rattle.frame_lines.proofs.read_words.Given as goal

abbrev pub invariant-loop-i : goal.invariant-loop-i
invariant-loop-i l = Words l.s l.count l.i l.initial.words l.words
