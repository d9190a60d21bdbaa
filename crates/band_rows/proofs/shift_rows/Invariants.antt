use Rattle.band_clearing.specs.Bands.{Shifted}
use Rattle.band_rows.proofs.shift_rows.Given as goal

abbrev pub invariant-loop-i : goal.invariant-loop-i
invariant-loop-i l = Shifted l.i l.b l.initial.w l.w
