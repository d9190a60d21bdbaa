use Rattle.cofactor_band.proofs.ColumnRounds.{Scaling}
use Rattle.cofactor_band.proofs.scale_into.Given as goal

abbrev pub invariant-loop-k : goal.invariant-loop-k
invariant-loop-k l = Scaling l.n l.x l.at l.k l.w l.initial.u l.u
