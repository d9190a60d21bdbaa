-- What the stages ask of the buffer w and what they answer: A of degree d at a and B at b, modulo n, and room from s on.
--
--   ContentAsked       A has a leading unit and B has d words
--   DivisionAsked      B has degree k, at most d, and the inverse of its leading word is i
--   TakeAsked, ContentTaken    B over c, and A modulo v, which is n / c
--   DivisorOrSplit     D, or two coprime divisors of n
--   ClearsBy, Clears   D; two coprime divisors of n; or a content c and a B with a leading unit modulo n / c, by the record of that
--                      modulus; the former for records of any kind
use Rattle.std.specs.Prelude.{◌≡◌, Result, Ok, Err, List, ℕ, ◌+◌, ◌*◌, ◌/◌, ◌%◌, ◌<◌, ◌≤◌, length, get_or}
use Rattle.definitions.specs.Residues.{IsUnit}
use Rattle.definitions.specs.Resultants.{Reduced}
use Rattle.windows.specs.Window.{piece, Below, Apart}
use Rattle.modulus.specs.declared.Modulus.{Modulus}
use Rattle.modulus.specs.Values.{Known}
use Rattle.reduced_units.specs.States.{Splitter}
use Rattle.residue.specs.declared.Split.{Split}
use Rattle.divisor_stages.specs.declared.Clearing.{Clearing}
use Rattle.divisor_stages.specs.declared.Clearing.TheVariants.{Done, Parts, Next}

pub record ContentAsked (n a d b s : ℕ) (w : List ℕ) : Type 0 where
  pub two : 2 ≤ n
  pub one : 1 ≤ d
  pub first : a + (d + 1) ≤ s
  pub second : b + d ≤ s
  pub fits : s + 3 * d ≤ length w
  pub below_first : Below n a (d + 1) w
  pub below_second : Below n b d w
  pub apart : Apart a (d + 1) b d
  pub lead : IsUnit n (get_or w (a + d) 0)

pub record DivisionAsked (n a d b k i s : ℕ) (w : List ℕ) : Type 0 where
  pub two : 2 ≤ n
  pub near : k ≤ d
  pub first : a + (d + 1) ≤ s
  pub second : b + (k + 1) ≤ s
  pub fits : s + 3 * k ≤ length w
  pub below_first : Below n a (d + 1) w
  pub below_second : Below n b (k + 1) w
  pub apart : Apart a (d + 1) b (k + 1)
  pub inverse : (i * get_or w (b + k) 0) % n ≡ 1 % n

-- A of degree d, residues, and B of d words; c is a content and v the modulus over it
pub record TakeAsked (v c a d b : ℕ) (w : List ℕ) : Type 0 where
  pub positive : 1 ≤ c
  pub quotient : 1 ≤ v
  pub first : a + (d + 1) ≤ length w
  pub second : b + d ≤ length w
  pub below : Below (c * v) a (d + 1) w
  pub apart : Apart a (d + 1) b d

pub record ContentTaken (v c a d b : ℕ) (w w' : List ℕ) : Type 0 where
  pub same : length w' ≡ length w
  pub first : (k : ℕ) → k < d + 1 → get_or w' (a + k) 0 ≡ get_or w (a + k) 0 % v
  pub second : (k : ℕ) → k < d → get_or w' (b + k) 0 ≡ get_or w (b + k) 0 / c

-- "it is reached exactly when D divides c": D of f and g; or two coprime divisors of n
abbrev pub DivisorOrSplit : ℕ → List ℕ → List ℕ → Result ℕ (Split ℕ) → Type 0
DivisorOrSplit n f g (Ok D) = Reduced n f g D
DivisorOrSplit n f g (Err s) = Splitter n s.p s.q

-- n is c v, and D is c times what it is of A and of the B that stands there now, modulo v
pub record Cleared (n a d b c v k i s : ℕ) (w w' : List ℕ) : Type 0 where
  pub positive : 1 ≤ c
  pub whole : n ≡ c * v
  pub shorter : k < d
  pub asked : DivisionAsked v a d b k i s w'
  pub constants : (D : ℕ) → Reduced v (piece w' a (d + 1)) (piece w' b (k + 1)) D
      → Reduced n (piece w a (d + 1)) (piece w b d) (c * D)

-- the records of a modulus are an M, those that are true are `known`, and the modulus of a record is its `of`
abbrev pub ClearsBy : (M : Type 0) → (M → Type 0) → (M → ℕ) → ℕ → ℕ → ℕ → ℕ → ℕ → List ℕ → List ℕ → Clearing ℕ M → Type 0
ClearsBy M known of n a d b s w w' (Done D) = Reduced n (piece w a (d + 1)) (piece w b d) D
ClearsBy M known of n a d b s w w' (Parts p q) = Splitter n p q
ClearsBy M known of n a d b s w w' (Next c v k i) = known v × (Cleared n a d b c (of v) k i s w w')

abbrev pub Clears : ℕ → ℕ → ℕ → ℕ → ℕ → List ℕ → List ℕ → Clearing ℕ Modulus → Type 0
Clears = ClearsBy Modulus Known (λ m. m.n)
