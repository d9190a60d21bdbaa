-- Multipliers as cofactors: what is asked of the words, and what is handed out.
--
--   Put          c times the words of a window, with zeros above
--   HandAsked    the multipliers stand in the buffer, residues, and there is room for them
--   Handed       both of them times z
--
-- Letters: r is where the multipliers stand; a, b are how many words of each; u, v are the buffers for them.
use Rattle.std.specs.Prelude.{◌≡◌, List, ℕ, ◌+◌, ◌*◌, ◌%◌, ◌<◌, ◌≤◌, length}
use Rattle.definitions.specs.Polynomials.{coef}
use Rattle.windows.specs.Window.{piece, Below}
use Rattle.modulus.specs.declared.Modulus.{Modulus}
use Rattle.modulus.specs.Values.{Known, value, values}
use Rattle.euclid_steps.specs.declared.Ending.{Ending}

pub record Put (n c at len : ℕ) (w u u' : List ℕ) : Type 0 where
  pub same : length u' ≡ length u
  pub words : (k : ℕ) → coef u' k ≡ (c * coef (piece w at len) k) % n

pub record HandAsked (m : Modulus) (r : Ending ℕ) (a b : ℕ) (w u v : List ℕ) : Type 0 where
  pub known : Known m
  pub factor : r.k ≤ m.n
  pub inside_u : r.u + a ≤ length w
  pub inside_v : r.v + b ≤ length w
  pub below_u : Below m.n r.u a w
  pub below_v : Below m.n r.v b w
  pub room_u : a ≤ length u
  pub room_v : b ≤ length v

-- k is the factor that gamma is held without
pub record Handed (m : Modulus) (r : Ending ℕ) (z a b : ℕ) (w u v u' v' : List ℕ) : Type 0 where
  pub first : Put m.n z r.u a (values m w) u u'
  pub second : Put m.n (z * value m r.k) r.v b (values m w) v v'
