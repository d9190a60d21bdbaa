-- The length of so long an array is not for a search.
use mathlib.Core.Path.{sym}
use Prim.Native.Nat.{ℕ}
use lib.ListN.{length-replicate}
use Rattle.desk.proofs.answers_room.Goals as goal

pub returns : goal.returns
returns c = sym (length-replicate {A = ℕ} 851968 0)
