use Rattle.std.proofs.Common.{◌≤◌}
use Rattle.test_vectors.proofs.cofactor_words.Given as goal

abbrev pub invariant-loop-m : goal.invariant-loop-m
invariant-loop-m l = l.l ≤ 4200

abbrev pub decreases-loop-m : goal.decreases-loop-m
decreases-loop-m l = l.m
