use Rattle.std.proofs.Common.{length}
use Rattle.windows.proofs.WindowRounds.{Writing}
use Rattle.band_clearing.specs.Bands.{from_top}
use Rattle.band_rows.proofs.put_reversed.Given as goal

abbrev pub invariant-loop-j : goal.invariant-loop-j
invariant-loop-j l = Writing (from_top l.h) l.at (length l.h) l.initial.w l.w l.j
