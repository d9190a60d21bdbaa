use Rattle.window_factor.proofs.Rounds.{Nearing}
use Rattle.window_factor.proofs.unit_times_monic.Given as goal

abbrev pub invariant-loop : goal.invariant-loop
invariant-loop l = Nearing l.m.n l.d l.t l.i l.initial.w l.counter l.w
