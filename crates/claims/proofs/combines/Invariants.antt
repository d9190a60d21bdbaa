use Rattle.claims.proofs.Testing.{CombinedBelow}
use Rattle.claims.proofs.combines.Given as goal

abbrev pub invariant-loop-k : goal.invariant-loop-k
invariant-loop-k l = CombinedBelow l.k l.n l.f l.g l.u l.v l.d
