-- The resultant of the words of a pair is the resultant of its pieces.
use mathlib.Core.Path.{◌≡◌, ap₂, ◌∙◌}
use mathlib.Core.List.{List}
use Prim.Native.Nat.{ℕ, ◌+◌, ◌-◌, ◌*◌}
use borrow.Rule.Slice.PartMut.{mid_of}
use Rattle.definitions.specs.Resultants.{resultant}
use Rattle.batch_pairs.specs.Batches.{piece}
use Rattle.batch_pairs.proofs.PairRounds.{part_is}

pub resultant_of : (n i d e r : ℕ) (f g : List ℕ)
    → r ≡ resultant n (mid_of (i * (d + 1)) (i * (d + 1) + (d + 1) - i * (d + 1)) f)
    (mid_of (i * (e + 1)) (i * (e + 1) + (e + 1) - i * (e + 1)) g)
    → r ≡ resultant n (piece d i f) (piece e i g)
resultant_of n i d e r f g h = h ∙ ap₂ (resultant n) (part_is i d f) (part_is i e g)
