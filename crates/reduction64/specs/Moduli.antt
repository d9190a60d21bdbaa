-- A modulus of 64 bits with its reciprocal.
--
--   Ready m          n is above 0; where it is below 2^63, r, v1 and v0 are its reciprocal; where k is not 0, n has Montgomery's form,
--                    with k and s. The equations are shut: omega above this crate stops at numbers as large as 2^64. `open_ready`,
--                    `formed` and `squared` open them, `shut` makes them.
use Rattle.std.specs.Prelude.{◌≡◌, ℕ, ◌^◌, ◌<◌, ◌≤◌, ◌≢◌}
use Rattle.law_words64.specs.Reciprocals.{IsReciprocal}
use Rattle.montgomery64.specs.Forms.{Formed, Squared}
use Rattle.reduction64.specs.declared.Reciprocal.{Reciprocal}

unfoldable pub Equations : Reciprocal → Type 0
Equations m = m.n < 2 ^ 63 → IsReciprocal (2 ^ 64) m.n m.r m.v1 m.v0

unfoldable pub Inverses : Reciprocal → Type 0
Inverses m = (m.k ≢ 0) → Formed m.n m.k × Squared m.n m.s

pub record Ready (m : Reciprocal) : Type 0 where
  pub pos : 1 ≤ m.n
  pub equations : Equations m
  pub inverses : Inverses m

pub open_ready : {m : Reciprocal} → Ready m → m.n < 2 ^ 63 → IsReciprocal (2 ^ 64) m.n m.r m.v1 m.v0
unfolding Equations
open_ready k l = k.equations l

pub formed : {m : Reciprocal} → Ready m → (m.k ≢ 0) → Formed m.n m.k
unfolding Inverses
formed r h = (r.inverses h).0

pub squared : {m : Reciprocal} → Ready m → (m.k ≢ 0) → Squared m.n m.s
unfolding Inverses
squared r h = (r.inverses h).1

pub shut : (m : Reciprocal) → 1 ≤ m.n → (m.n < 2 ^ 63 → IsReciprocal (2 ^ 64) m.n m.r m.v1 m.v0)
    → ((m.k ≢ 0) → Formed m.n m.k × Squared m.n m.s) → Ready m
unfolding Equations Inverses
shut m l k h = record { pos = l; equations = k; inverses = h }
