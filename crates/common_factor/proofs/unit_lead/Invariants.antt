use Rattle.common_factor.proofs.Strips.{Left}
use Rattle.common_factor.proofs.unit_lead.Given as goal

abbrev pub invariant-loop-l : goal.invariant-loop-l
invariant-loop-l l = Left l.n l.w l.a l.len l.c l.l
