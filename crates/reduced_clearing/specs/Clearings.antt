-- What the clearing of contents and unit factors asks and promises of a stage's window (reduced_units/specs/States has the layout).
--
--   ContentAsked, ContentTaken           B over c, the multiplier of A times c, A modulo ρ, which is ν / c
--   UnitAsked, MonicAsked, UnitClears    a monic polynomial in the place of B, whose coefficients are not all nilpotent
--   Clears                               what the clearing comes to
use Rattle.std.specs.Prelude.{◌≡◌, List, ℕ, ◌+◌, ◌*◌, ◌/◌, ◌≤◌, ◌<◌, length}
use Rattle.windows.specs.Window.{piece, Moved, mulBy, quotient_by, reduced_by, second}
use Rattle.window_factor.specs.Factors.{SplitOf, LeadingUnit, AllNilpotents}
use Rattle.reduced_units.specs.declared.Places.{Places}
use Rattle.reduced_units.specs.States.{StageAt, Solved, Splitter, UnitCleared}
use Rattle.reduced_units.specs.Factorings.{UnitTaken}
use Rattle.reduced_clearing.specs.declared.Clearing.{Clearing}
use Rattle.reduced_clearing.specs.declared.Clearing.TheVariants.{Done, Parts, Next}

-- a content c of a modulus that is c ρ, and the polynomials and the multiplier of A inside the window
pub record ContentAsked (n ρ c : ℕ) (p : Places) (a : ℕ) (w : List ℕ) : Type 0 where
  pub positive : 1 ≤ n
  pub content : 1 ≤ c
  pub quotient : 1 ≤ ρ
  pub multiplier : p.al + 2 * (p.t + 1) ≤ length w
  pub second : p.pb + a ≤ length w
  pub first : p.pa + (a + 1) ≤ length w

-- the window after each of the three changes
pub record ContentTaken (n ρ c t pa a pb al : ℕ) (w w' : List ℕ) : Type 0 where
  pub w₁ : List ℕ
  pub w₂ : List ℕ
  pub scaled : Moved (mulBy n c) al al (2 * (t + 1)) w w₁
  pub divided : Moved (quotient_by c) pb pb a w₁ w₂
  pub reduced : Moved (reduced_by ρ) pa pa (a + 1) w₂ w'

-- a stage, and B with a coefficient that is not nilpotent
pub record UnitAsked (n ν : ℕ) (p : Places) (a l : ℕ) (w : List ℕ) : Type 0 where
  pub stage : StageAt n ν p a a l w
  pub some : AllNilpotents ν (piece w p.pb a) → ⊥

-- a stage, and B with its highest coefficient that is not nilpotent at s, with the inverse i
pub record MonicAsked (n ν : ℕ) (p : Places) (a l s i : ℕ) (w : List ℕ) : Type 0 where
  pub stage : StageAt n ν p a a l w
  pub shorter : s < a
  pub lead : LeadingUnit ν s i (piece w p.pb a)

-- the monic factor of B is 1: the multiplier of B is the one that is sought, and the answer is the content c
pub record UnitLast (n ν c : ℕ) (p : Places) (a l D : ℕ) (w w' : List ℕ) : Type 0 where
  pub answer : D ≡ c
  pub s : ℕ
  pub m : ℕ
  pub w₂ : List ℕ
  pub none : s ≡ 0
  pub shorter : s < a
  pub taken : UnitTaken n ν p.t p.pb a p.be s l m w w₂
  pub copied : Moved second p.be (p.t + 1) p.t w₂ w'

-- it has a degree s
pub record UnitNext (n ν c : ℕ) (p : Places) (a l D s m : ℕ) (w w' : List ℕ) : Type 0 where
  pub answer : D ≡ c
  pub degree : 1 ≤ s
  pub shorter : s < a
  pub taken : UnitTaken n ν p.t p.pb a p.be s l m w w'

abbrev pub UnitClears : ℕ → ℕ → ℕ → Places → ℕ → ℕ → List ℕ → List ℕ → Clearing ℕ → Type 0
UnitClears n ν c p a l w w' (Done D) = UnitLast n ν c p a l D w w'
UnitClears n ν c p a l w w' (Parts x y) = SplitOf ν x y
UnitClears n ν c p a l w w' (Next D s m) = UnitNext n ν c p a l D s m w w'

-- the reduced resultant of A and B; two coprime divisors of ν; or A and a monic B modulo ν / c, for the division stage
abbrev pub Clears : ℕ → ℕ → Places → ℕ → List ℕ → List ℕ → Clearing ℕ → Type 0
Clears n ν p a w w' (Done D) = Solved n ν p.t p.pa a p.pb a p.al p.be D w w'
Clears n ν p a w w' (Parts x y) = Splitter ν x y
Clears n ν p a w w' (Next c s l) = UnitCleared n ν p.t p.pa a p.pb p.al p.be c s l w w'
