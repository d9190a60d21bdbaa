use Rattle.std.proofs.Common.{◌-◌}
use Rattle.shares_service.proofs.Asking.{Asking}
use Rattle.shares_service.proofs.first_waiting.Given as goal

abbrev pub invariant-loop-k : goal.invariant-loop-k
invariant-loop-k l = Asking l.waiting l.turn (4 - l.k) l.i
