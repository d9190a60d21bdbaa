-- What the words of a run stand for, whatever form they are held in. Assumes nothing: these are definitions.
--
--   value m x     what the word x stands for: itself, or, where words are held, the residue whose multiple by 2^32 it is
--   values m w    what each word of w stands for
--   Known m       the fields of m belong to its n
--   ModulusOf     m is the record of n
--   Enters, Leaves, Multiplies, Adds, Subtracts    what the operations on words answer
use Rattle.std.specs.Prelude.{◌≡◌, List, map, ℕ, zero, suc, ◌+◌, ◌-◌, ◌*◌, ◌%◌, ◌<◌, ◌≤◌}
use Rattle.definitions.specs.Residues.{K}
use Rattle.reduction.specs.Moduli.{Ready}
use Rattle.reduction.specs.declared.Reciprocal.{Reciprocal}
use Rattle.montgomery.specs.Held.{plain, Fits, Formed}
use Rattle.montgomery.specs.declared.Form.{Form}
use Rattle.modulus.specs.declared.Modulus.{Modulus}

abbrev pub value_by : ℕ → ℕ → ℕ → ℕ
value_by zero n x = x
value_by (suc h) n x = plain n x

unfoldable pub value : Modulus → ℕ → ℕ
value m x = value_by m.held m.n x

unfoldable pub values : Modulus → List ℕ → List ℕ
values m w = map (value m) w

abbrev pub reciprocal : Modulus → Reciprocal
reciprocal m = record { n = m.n; v = m.v; c = m.c }

abbrev pub form : Modulus → Form
form m = record { n = m.n; k = m.negative; m = m.inverse; r2 = m.c }

pub record Known (m : Modulus) : Type 0 where
  pub pos : 1 ≤ m.n
  pub small : m.c < m.n
  pub ready : Ready (reciprocal m)
  pub formed : (m.held ≡ 0 → ⊥) → Formed (form m)

-- words are held for every n that has the form
pub record ModulusOf (n : ℕ) (m : Modulus) : Type 0 where
  pub known : Known m
  pub is : m.n ≡ n
  pub wide : m.wide ≡ n
  pub k : m.k ≡ K n
  pub held : Fits n → m.held ≡ 1

-- r is a word for a
abbrev pub Enters : Modulus → ℕ → ℕ → Type 0
Enters m a r = (r < m.n) × (value m r ≡ a % m.n)

-- r is what x stands for
abbrev pub Leaves : Modulus → ℕ → ℕ → Type 0
Leaves m x r = r ≡ value m x

-- r stands for the product, the sum and the difference of what x and y stand for
abbrev pub Multiplies : Modulus → ℕ → ℕ → ℕ → Type 0
Multiplies m x y r = (r < m.n) × (value m r ≡ (value m x * value m y) % m.n)

abbrev pub Adds : Modulus → ℕ → ℕ → ℕ → Type 0
Adds m x y r = (r < m.n) × (value m r ≡ (value m x + value m y) % m.n)

abbrev pub Subtracts : Modulus → ℕ → ℕ → ℕ → Type 0
Subtracts m x y r = (r < m.n) × (value m r ≡ (value m x + (m.n - value m y)) % m.n)
