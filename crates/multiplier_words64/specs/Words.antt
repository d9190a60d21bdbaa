-- Multipliers as cofactors, words of 64 bits: the notions of `multiplier_words`, at a modulus with plain words.
--
--   HandAsked    the multipliers stand in the buffer, residues, and there is room for them
--   Handed       both of them times z
use Rattle.std.specs.Prelude.{List, ℕ, ◌+◌, ◌≤◌, length}
use Rattle.windows.specs.Window.{Below}
use Rattle.multiplier_words.specs.Words as narrow
use Rattle.reduction64.specs.declared.Reciprocal.{Reciprocal}
use Rattle.reduction64.specs.Moduli.{Ready}
use Rattle.modulus64.specs.Plain.{plain}
use Rattle.euclid_steps.specs.declared.Ending.{Ending}

pub record HandAsked (m : Reciprocal) (r : Ending ℕ) (a b : ℕ) (w u v : List ℕ) : Type 0 where
  pub known : Ready m
  pub factor : r.k ≤ m.n
  pub inside_u : r.u + a ≤ length w
  pub inside_v : r.v + b ≤ length w
  pub below_u : Below m.n r.u a w
  pub below_v : Below m.n r.v b w
  pub room_u : a ≤ length u
  pub room_v : b ≤ length v

abbrev pub Handed : Reciprocal → Ending ℕ → ℕ → ℕ → ℕ → List ℕ → List ℕ → List ℕ → List ℕ → List ℕ → Type 0
Handed m r z a b w u v u' v' = narrow.Handed (plain m) r z a b w u v u' v'
