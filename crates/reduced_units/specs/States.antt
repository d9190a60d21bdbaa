-- What the two stages of the reduced run ask and promise. A stage works in one window, laid out by t alone:
--
--   H, monic of degree t    at 0           t + 1 words
--   the multiplier found    at t + 1       t words
--   two polynomials         from 2 (t + 1) to 4 (t + 1)
--   two multipliers         from 4 (t + 1) to 8 (t + 1)
--   room                    from there on
--
-- n is the modulus of the multipliers and ν a divisor of n, the modulus of the two polynomials: A of degree a at pa, with a leading unit,
-- and B of c words at pb. The multipliers of A and B, at al and be, have l words and zeros above. `Places` of the sources holds t, pa, pb,
-- al and be.
--
--   PlacesApart, Multiplier, Stage, StageAt    what a stage asks
--   Solved, Splitter                           what it promises
--   Change, UnitCleared                        what the clearing of contents and unit factors promises
use Rattle.std.specs.Prelude.{◌≡◌, List, ℕ, ◌+◌, ◌-◌, ◌*◌, ◌/◌, ◌%◌, ◌<◌, ◌≤◌, length, get_or}
use Rattle.std.specs.Int.{◌∣◌}
use Rattle.definitions.specs.Residues.{K, IsUnit, Coprime}
use Rattle.definitions.specs.Resultants.{Reduced}
use Rattle.windows.specs.Window.{piece, Below, Apart}
use Rattle.law_multipliers.specs.Multipliers.{HasMultiplier, Completes}
use Rattle.reduced_products.specs.Products.{MonicAtZero}
use Rattle.reduced_units.specs.declared.Places.{Places}

-- the polynomials and the multipliers stand in their parts of the window, each apart from the other
pub record PlacesApart (t pa pb al be : ℕ) : Type 0 where
  pub a_low : 2 * (t + 1) ≤ pa
  pub a_high : pa + (t + 1) ≤ 4 * (t + 1)
  pub b_low : 2 * (t + 1) ≤ pb
  pub b_high : pb + (t + 1) ≤ 4 * (t + 1)
  pub al_low : 4 * (t + 1) ≤ al
  pub al_high : al + 2 * (t + 1) ≤ 8 * (t + 1)
  pub be_low : 4 * (t + 1) ≤ be
  pub be_high : be + 2 * (t + 1) ≤ 8 * (t + 1)
  pub polynomials : Apart pa (t + 1) pb (t + 1)
  pub multipliers : Apart al (2 * (t + 1)) be (2 * (t + 1))

-- l words of a multiplier, and zeros
pub record Multiplier (n t p l : ℕ) (w : List ℕ) : Type 0 where
  pub below : Below n p (2 * (t + 1)) w
  pub zero : (k : ℕ) → l ≤ k → k < 2 * (t + 1) → get_or w (p + k) 0 ≡ 0

-- the words that a stage needs
abbrev pub stage_room : ℕ → ℕ → ℕ
stage_room n t = 11 * (t + 1) + (2 * (K n * t) + t)

-- A and B stand in the window with their multipliers, and A has a leading unit
pub record Stage (n ν t pa a pb c al be l : ℕ) (w : List ℕ) : Type 0 where
  pub positive : 1 ≤ n
  pub above : 2 ≤ ν
  pub divides : ν ∣ n
  pub degree : 1 ≤ a
  pub within : a ≤ t
  pub some : 1 ≤ l
  pub most : l ≤ t
  pub room : stage_room n t ≤ length w
  pub places : PlacesApart t pa pb al be
  pub monic : MonicAtZero n t w
  pub first : Below ν pa (a + 1) w
  pub lead : IsUnit ν (get_or w (pa + a) 0)
  pub second : Below ν pb c w
  pub alpha : Multiplier n t al l w
  pub beta : Multiplier n t be l w

-- the same, with the places of the sources
abbrev pub StageAt : ℕ → ℕ → Places → ℕ → ℕ → ℕ → List ℕ → Type 0
StageAt n ν p a c l w = Stage n ν p.t p.pa a p.pb c p.al p.be l w

-- two coprime divisors of n above 1
pub record Splitter (n p q : ℕ) : Type 0 where
  pub divides₁ : p ∣ n
  pub divides₂ : q ∣ n
  pub above₁ : 1 < p
  pub above₂ : 1 < q
  pub coprime : Coprime p q

-- D is the reduced resultant of A and B modulo ν; and whatever the multipliers lead to, the one found leads to m D
pub record Solved (n ν t pa a pb c al be D : ℕ) (w w' : List ℕ) : Type 0 where
  pub reduced : Reduced ν (piece w pa (a + 1)) (piece w pb c) D
  pub below : Below n (t + 1) t w'
  pub completes : (g : List ℕ) (m : ℕ) → 1 ≤ m → n ≡ m * ν
      → HasMultiplier n m (piece w 0 (t + 1)) g (piece w al (2 * (t + 1))) (piece w pa (a + 1))
      → HasMultiplier n m (piece w 0 (t + 1)) g (piece w be (2 * (t + 1))) (piece w pb c)
      → Completes n (piece w 0 (t + 1)) g (piece w' (t + 1) t) (m * D)

-- B, of x words, and the modulus ν = c r have changed: B has y words now and the modulus is r. The reduced resultant is c times what it
-- is now, and the multipliers lead to c times as much.
pub record Change (n ν r c t pa a pb x y al be : ℕ) (w w' : List ℕ) : Type 0 where
  pub whole : ν ≡ c * r
  pub reduced : (D : ℕ) → Reduced r (piece w' pa (a + 1)) (piece w' pb y) D → Reduced ν (piece w pa (a + 1)) (piece w pb x) (c * D)
  pub first : (g : List ℕ) (m : ℕ) → 1 ≤ m → n ≡ m * ν
      → HasMultiplier n m (piece w 0 (t + 1)) g (piece w al (2 * (t + 1))) (piece w pa (a + 1))
      → HasMultiplier n (m * c) (piece w 0 (t + 1)) g (piece w' al (2 * (t + 1))) (piece w' pa (a + 1))
  pub second : (g : List ℕ) (m : ℕ) → 1 ≤ m → n ≡ m * ν
      → HasMultiplier n m (piece w 0 (t + 1)) g (piece w be (2 * (t + 1))) (piece w pb x)
      → HasMultiplier n (m * c) (piece w 0 (t + 1)) g (piece w' be (2 * (t + 1))) (piece w' pb y)

-- the content c of B is taken out of it and of the modulus, and a unit factor out of B, which is monic of degree s now
pub record UnitCleared (n ν t pa a pb al be c s l : ℕ) (w w' : List ℕ) : Type 0 where
  pub positive : 1 ≤ c
  pub degree : 1 ≤ s
  pub shorter : s < a
  pub monic : get_or w' (pb + s) 0 ≡ 1
  pub stage : Stage n (ν / c) t pa a pb (s + 1) al be l w'
  pub change : Change n ν (ν / c) c t pa a pb a (s + 1) al be w w'
