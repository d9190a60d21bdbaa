use Rattle.test_lines.specs.Lines.{FrontWritten}
use Rattle.test_lines.proofs.numbers.Given as goal

abbrev pub invariant-loop-k : goal.invariant-loop-k
invariant-loop-k l = FrontWritten l.initial.words l.words l.k
