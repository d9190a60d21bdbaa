use Rattle.std.proofs.Common.{[], ◌∷◌}
use Rattle.shares_service.specs.GivingOut.{giving}
use Rattle.shares_service.proofs.Frames.{Handed}
use Rattle.shares_service.proofs.shares.Given as goal

abbrev pub invariant-loop-i : goal.invariant-loop-i
invariant-loop-i l = Handed l.frames (l.waiting1 ∷ l.waiting2 ∷ l.waiting3 ∷ l.waiting4 ∷ []) (giving l.s.turn l.s.waiting l.s.given) l.i
