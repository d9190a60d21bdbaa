use Rattle.window_factor.proofs.SeriesRounds.{Growing}
use Rattle.window_factor.proofs.series_inverse_by.Given as goal

abbrev pub invariant-loop-j : goal.invariant-loop-j
invariant-loop-j l = Growing l.m.n l.k l.s l.len l.initial.w l.w l.j
