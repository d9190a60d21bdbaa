-- Two texts compared: what `==` says of them.
use mathlib.Core.Path.{◌≡◌, refl}
use mathlib.Core.Bool.{Bool, true, false, cond, ◌&&◌}
use mathlib.Core.List.{List, [], ◌∷◌}
use Prim.Native.Nat.{ℕ}
use lib.Dec.{eqb}
use Rattle.std.specs.Cmp.Lexicographic.{pointwise}
use Rattle.text_notation.specs.Candidates.{same_text_of}

pub compared : (s t : List ℕ) → pointwise eqb s t ≡ same_text_of s t
unfolding same_text_of
compared [] [] = refl
compared [] (b ∷ t) = refl
compared (a ∷ s) [] = refl
compared (a ∷ s) (b ∷ t) = go (eqb a b) (compared s t)
  where
    go : (q : Bool) → pointwise eqb s t ≡ same_text_of s t → (q && pointwise eqb s t) ≡ cond q (same_text_of s t) false
    go true e = e
    go false e = refl
