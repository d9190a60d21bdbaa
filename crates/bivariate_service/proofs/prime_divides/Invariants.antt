use Rattle.bivariate_service.proofs.Primes.{Checked}
use Rattle.bivariate_service.proofs.prime_divides.Given as goal

abbrev pub invariant-loop-i : goal.invariant-loop-i
invariant-loop-i l = Checked l.n l.last l.i
