use Rattle.definitions.specs.Polynomials.{coef}
use Rattle.windows.specs.Window.{piece}
use Rattle.unit_monic_service.proofs.HandingRounds.{Handing}
use Rattle.unit_monic_service64.proofs.hand_out.Given as goal

abbrev pub invariant-loop-k : goal.invariant-loop-k
invariant-loop-k l = Handing (coef (piece l.w l.a l.len)) l.initial.out l.out l.k
