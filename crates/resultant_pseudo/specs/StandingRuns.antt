-- Where a run without inverses stands: a `State` x holds the places a, b and the degrees d, e of f and g in the buffer w, and the products
-- s, p, t.
--
--   Placed           two polynomials of residues in one buffer, apart, d at most e
--   standing         the resultant of the two
--   StateReached     from one pair to another, what is known of the resultant and what is reached are kept
--   Stepped          a step: led to others, of smaller degrees in sum
--   Finished         led to a constant and a polynomial
--   Descended        the same from a pair, in numbers: the resultant's equation, and the constant that is reached
--   EuclidAttempted  the value, or nothing
--   Answers          the same of a state, for any resultant that is known by it
--
-- Letters: n is the modulus; R₀ is the resultant asked for; x, y are states, w, v the words with them.
use Rattle.std.specs.Prelude.{◌≡◌, Result, Ok, Err, List, ℕ, ◌+◌, ◌*◌, ◌%◌, ◌^◌, ◌<◌, ◌≤◌, length, get_or}
use Rattle.definitions.specs.Resultants.{resultant, Reached}
use Rattle.windows.specs.Window.{piece}
use Rattle.window_division.specs.Remainders.{Pair}
use Rattle.resultant_signs.specs.RunLaws.{Run}
use Rattle.resultant_signs.specs.EliminationLaws.{Within}
use Rattle.resultant_pseudo.specs.declared.State.{State}
use Rattle.resultant_pseudo.specs.declared.NotUnit.{NotUnit}

pub record Placed (n a d b e : ℕ) (w : List ℕ) : Type 0 where
  pub pos : 1 ≤ n
  pub near : d ≤ e
  pub first : a + d < length w
  pub second : b + e < length w
  pub pair : Pair n a d b e w

abbrev pub standing : ℕ → ℕ → ℕ → ℕ → ℕ → List ℕ → ℕ
standing n a d b e w = resultant n (piece w a (d + 1)) (piece w b (e + 1))

-- whatever is known of the resultant R₀ by the pair before is known by the pair after; what the pair after combine to, the pair before do
pub record StateReached (n a d b e s p t : ℕ) (w : List ℕ) (a' d' b' e' s' p' t' : ℕ) (w' : List ℕ) : Type 0 where
  pub placed : Placed n a' d' b' e' w'
  pub same : length w' ≡ length w
  pub run : (R₀ : ℕ) → Run n s p t d R₀ (standing n a d b e w) → Run n s' p' t' d' R₀ (standing n a' d' b' e' w')
  pub within : Within n (piece w a (d + 1)) (piece w b (e + 1)) (piece w' a' (d' + 1)) (piece w' b' (e' + 1))

abbrev pub StateReachedAt : ℕ → State → List ℕ → State → List ℕ → Type 0
StateReachedAt n x w y v = StateReached n x.a x.d x.b x.e x.s x.p x.t w y.a y.d y.b y.e y.s y.p
    y.t v

abbrev pub Stepped : ℕ → State → List ℕ → State → List ℕ → Type 0
Stepped n x w y v = (StateReachedAt n x w y v) × (y.d + y.e < x.d + x.e)

abbrev pub Finished : ℕ → State → List ℕ → State → List ℕ → Type 0
Finished n x w y v = (StateReachedAt n x w y v) × (y.d ≡ 0)

-- the end of the run from f of degree d at a and g of degree e at b: a constant in the first place of y, and a polynomial of degree y .e
pub record Descended (n a d b e : ℕ) (w : List ℕ) (y : State) (v : List ℕ) : Type 0 where
  pub same : length v ≡ length w
  pub inside : y.a < length v
  pub below : get_or v y.a 0 < n
  -- s times the resultant is p t times the power of the constant
  pub equation : (y.s * standing n a d b e w) % n ≡ (y.p * y.t * get_or v y.a 0 ^ y.e) % n
  -- f and g combine to the constant
  pub reached : Reached n (piece w a (d + 1)) (piece w b (e + 1)) (get_or v y.a 0)
  -- and to all that the constant and the last polynomial combine to
  pub within : Within n (piece w a (d + 1)) (piece w b (e + 1)) (piece v y.a 1) (piece v y.b (y.e + 1))

-- the value, if every lead was a unit
abbrev pub EuclidAttempted : ℕ → ℕ → Result ℕ (NotUnit ℕ) → Type 0
EuclidAttempted n x (Ok v) = (v ≡ x) × (v < n)
EuclidAttempted n x (Err s) = Unit

abbrev pub Answers : ℕ → State → List ℕ → Result ℕ (NotUnit ℕ) → Type 0
Answers n y w r = (R₀ : ℕ) → R₀ < n → Run n y.s y.p y.t y.d R₀ (standing n y.a y.d y.b y.e w)
    → EuclidAttempted n R₀ r
