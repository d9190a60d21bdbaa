-- A polynomial with a leading unit in the place of one with the same constants: what is asked and promised of the words of one buffer.
--
--   Beyond b m s           of the words below s only the m from b on are changed
--   LeadAsked n b m s      m words at b, residues, and room from s on
--   FactorAsked            the same, and the coefficient at t has the inverse i, those above it being nilpotent
--   Leading n b m t i s    the polynomial at b has degree t now, with a leading unit, and D with any other is what it was
--   LeadAnswer             what is promised of each kind of the highest coefficient that is no nilpotent
use Rattle.std.specs.Prelude.{◌≡◌, List, ℕ, ◌+◌, ◌*◌, ◌%◌, ◌<◌, ◌≤◌, length, get_or}
use Rattle.definitions.specs.Resultants.{Reduced}
use Rattle.windows.specs.Window.{piece, Below}
use Rattle.window_factor.specs.declared.Highest.{Highest}
use Rattle.window_factor.specs.declared.Highest.TheVariants.{UnitAt as UnitAt', Splits, AllNilpotent}
use Rattle.window_factor.specs.Factors.{LeadingUnit, SplitOf, AllNilpotents}

-- of the words below s only the m from b on are changed
pub record Beyond (b m s : ℕ) (w w' : List ℕ) : Type 0 where
  pub same : length w' ≡ length w
  pub at : (k : ℕ) → k < s → ((i : ℕ) → i < m → k ≡ b + i → ⊥) → get_or w' k 0 ≡ get_or w k 0

pub record LeadAsked (n b m s : ℕ) (w : List ℕ) : Type 0 where
  pub two : 2 ≤ n
  pub within : b + m ≤ s
  pub fits : s + 3 * m ≤ length w
  pub below : Below n b m w

pub record FactorAsked (n b m t i s : ℕ) (w : List ℕ) : Type 0 where
  pub asked : LeadAsked n b m s w
  pub shorter : t < m
  pub lead : LeadingUnit n t i (piece w b m)

-- S17: "the polynomial is u times h, h monic of degree t, u a unit polynomial": u does not change what is reached
pub record Leading (n b m t i s : ℕ) (w w' : List ℕ) : Type 0 where
  pub shorter : t < m
  pub beyond : Beyond b m s w w'
  pub below : Below n b (t + 1) w'
  pub inverse : (i * get_or w' (b + t) 0) % n ≡ 1 % n
  pub constants : (g : List ℕ) (D : ℕ) → Reduced n (piece w' b (t + 1)) g D → Reduced n (piece w b m) g D

abbrev pub LeadAnswer : ℕ → ℕ → ℕ → ℕ → List ℕ → List ℕ → Highest ℕ → Type 0
LeadAnswer n b m s w w' (UnitAt' t i) = Leading n b m t i s w w'
LeadAnswer n b m s w w' (Splits p q) = SplitOf n p q
LeadAnswer n b m s w w' AllNilpotent = AllNilpotents n (piece w b m)
