use Rattle.window_combining.proofs.Steps.{Combining}
use Rattle.montgomery.specs.Held.{plain}
use Rattle.modulus_windows.proofs.combine_pair_held.Given as goal

abbrev pub invariant-loop-j : goal.invariant-loop-j
invariant-loop-j l = Combining l.form.n (plain l.form.n l.l) (plain l.form.n l.c) (plain l.form.n l.e) l.src l.dst l.len l.initial.w l.w l.j l.y
