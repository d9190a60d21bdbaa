use native.Mathlib.Omega.{arith}
use mathlib.Core.Path.{refl, sym}
use Prim.Native.Nat.{ℕ}
use lib.ListN.{length-replicate}
use Rattle.frame_runs.specs.Working.{working_of}
use Rattle.frame_reader.proofs.fresh_words.Statement.{statement}
use Rattle.frame_reader.proofs.fresh_words.Tie as tie

returns : tie.Need-returns
returns c = (sym (length-replicate {A = ℕ} 8192 0), working_of 8192 refl (omega arith))

pub fresh_words_spec : {M : Type 1} → statement M
fresh_words_spec = tie.close (tie.spec returns)
