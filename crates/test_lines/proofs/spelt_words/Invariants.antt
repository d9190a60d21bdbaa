use Rattle.test_lines.specs.Lines.{FrontWritten}
use Rattle.test_lines.proofs.spelt_words.Given as goal

abbrev pub invariant-loop-count : goal.invariant-loop-count
invariant-loop-count l = FrontWritten l.initial.words l.words l.count
