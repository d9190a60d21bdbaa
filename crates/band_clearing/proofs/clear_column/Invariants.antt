use Rattle.band_clearing.specs.Bands.{ColumnCleared}
use Rattle.band_clearing.proofs.clear_column.Given as goal

abbrev pub invariant-loop-k : goal.invariant-loop-k
invariant-loop-k l = ColumnCleared l.n l.s.b l.s.d l.s.e l.l l.k l.p l.initial.w l.w
