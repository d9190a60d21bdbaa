-- The test of residues, for words of any width: what `all` answers of a list is what the definition says.
use Rattle.std.specs.Prelude.{◌≡◌, refl, Bool, true, false, cond, ◌&&◌, List, [], ◌∷◌, ℕ, ltb}
use Rattle.std.specs.List.{list_all}
use Rattle.refusals.specs.Refusals.{all_below_of}

pub all_is : (n : ℕ) (f : List ℕ) → list_all (λ x. ltb x n) f ≡ all_below_of n f
unfolding all_below_of
all_is n [] = refl
all_is n (x ∷ f) = go (ltb x n) (all_is n f)
  where
    go : {a b : Bool} (t : Bool) → a ≡ b → (t && a) ≡ cond t b false
    go true e = e
    go false e = refl
