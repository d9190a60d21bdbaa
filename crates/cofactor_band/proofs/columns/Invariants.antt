use Rattle.band_clearing.specs.Bands.{Moment}
use Rattle.cofactor_band.proofs.columns.Given as goal

abbrev pub invariant-loop-j : goal.invariant-loop-j
invariant-loop-j l = Moment l.n l.f l.g l.s.b l.s.d l.s.e l.j l.t.rows l.t.factor l.w
