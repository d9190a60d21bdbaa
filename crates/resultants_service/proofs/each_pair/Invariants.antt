use Rattle.windows.specs.Window.{Scratch}
use Rattle.batch_pairs.specs.Batches.{Pairs}
use Rattle.resultants_service.specs.ResultantsService.{IsResultant}
use Rattle.resultants_service.proofs.each_pair.Given as goal

abbrev pub invariant-loop-i : goal.invariant-loop-i
invariant-loop-i l = Pairs (IsResultant l.n) l.f l.b.d l.g l.b.e l.i l.initial.out l.out × Scratch l.initial.work l.work
