use Rattle.definitions.specs.Resultants.{Reduced}
use Rattle.windows.specs.Window.{Scratch}
use Rattle.batch_pairs.specs.Batches.{Pairs}
use Rattle.divisors_service64.proofs.each_pair.Given as goal

abbrev pub invariant-loop-i : goal.invariant-loop-i
invariant-loop-i l = Pairs (Reduced l.n) l.f l.b.d l.g l.b.e l.i l.initial.out l.out × Scratch l.initial.work l.work
