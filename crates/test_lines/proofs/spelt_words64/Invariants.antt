use Rattle.test_lines.specs.Lines.{FrontWritten}
use Rattle.test_lines.proofs.spelt_words64.Given as goal

abbrev pub invariant-loop-got : goal.invariant-loop-got
invariant-loop-got l = FrontWritten l.initial.words l.words l.got
