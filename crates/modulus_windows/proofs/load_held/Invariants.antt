use Prim.Native.Nat.{ℕ}
use lib.ListN.{length, get_or}
use Rattle.windows.proofs.WindowRounds.{Writing}
use Rattle.montgomery.specs.Held.{held}
use Rattle.modulus_windows.proofs.load_held.Given as goal

abbrev pub invariant-loop-j : goal.invariant-loop-j
invariant-loop-j l = Writing (λ (k : ℕ). held l.form.n (get_or l.f k 0)) l.at (length l.f) l.initial.w l.w l.j
