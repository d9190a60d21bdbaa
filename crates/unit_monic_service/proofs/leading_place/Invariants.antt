use Rattle.unit_monic_service.proofs.HandingRounds.{Trailing}
use Rattle.unit_monic_service.proofs.leading_place.Given as goal

abbrev pub invariant-loop-t : goal.invariant-loop-t
invariant-loop-t l = Trailing l.n l.f l.t
