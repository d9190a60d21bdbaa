use Rattle.std.proofs.Common.{◌≤◌}
use Rattle.test_lines.proofs.number_at.Given as goal

abbrev pub invariant-loop-i : goal.invariant-loop-i
invariant-loop-i l = l.x ≤ 4294967295
