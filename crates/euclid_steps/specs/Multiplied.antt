-- What Euclid without inverses with multipliers asks and promises.
--
--   Asked         f and g, f not the longer, have a word each, and w has room for two windows and a log of the steps
--   Multiplied    f and g combine to a constant, by multipliers that end where their degrees say, and the resultant's equation
--
-- Letters: r is where the run ended: the constant c is beta f + k gamma g; beta stands at u, gamma at v, length g words each.
use Rattle.std.specs.Prelude.{◌≡◌, List, ℕ, ◌+◌, ◌-◌, ◌*◌, ◌%◌, ◌^◌, ◌<◌, ◌≤◌, length}
use Rattle.definitions.specs.Polynomials.{coef, deg}
use Rattle.definitions.specs.Resultants.{resultant}
use Rattle.windows.specs.Window.{Below}
use Rattle.euclid_steps.specs.Steps.{Bound}
use Rattle.modulus.specs.declared.Modulus.{Modulus}
use Rattle.modulus.specs.Values.{value}
use Rattle.euclid_steps.specs.EuclidStages.{polynomial}
use Rattle.euclid_steps.specs.declared.Ending.{Ending}

pub record Asked (f g w : List ℕ) : Type 0 where
  pub some : 1 ≤ length f
  pub order : length f ≤ length g
  pub room : 12 * (length g - 1) + 2 ≤ length w

-- Unless f and g are two constants, beta has no more than deg g words; gamma has no more than deg f ("u of e words and v of d words").
pub record Multiplied (m : Modulus) (f g : List ℕ) (r : Ending ℕ) (w : List ℕ) : Type 0 where
  pub inside_u : r.u + length g ≤ length w
  pub inside_v : r.v + length g ≤ length w
  pub below_u : Below m.n r.u (length g) w
  pub below_v : Below m.n r.v (length g) w
  pub k_below : r.k < m.n
  pub c_below : r.c < m.n
  pub s_below : r.s < m.n
  pub p_below : r.p < m.n
  pub t_below : r.t < m.n
  pub bound : Bound m.n (coef f) (coef g) (value m r.k) (polynomial m w r.u (length g)) (polynomial m w r.v (length g))
      (value m r.c)
  pub first_ends : 1 ≤ deg g → (j : ℕ) → deg g ≤ j → polynomial m w r.u (length g) j ≡ 0
  pub second_ends : (j : ℕ) → deg f ≤ j → polynomial m w r.v (length g) j ≡ 0
  -- s times the resultant is p t times a power of the constant, and the power is not the zeroth
  pub equation : (value m r.s * resultant m.n f g) % m.n ≡ (value m r.p * value m r.t * value m r.c ^ r.e) % m.n
  pub degree : 1 ≤ deg g → 1 ≤ r.e
