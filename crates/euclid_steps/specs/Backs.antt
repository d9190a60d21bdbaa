-- The multipliers on the way back, in two windows of h words at the front of the buffer: beta at u, gamma at v. Frames and bounds are of
-- words, equations of what the words stand for.
--
--   Held         two windows of residues, apart; beta ends at the degree e of g, gamma at the degree d of f
--   Ended        the end of the steps: beta is 1, gamma is 0
--   LiftAsked    what a step backwards asks: the multipliers of the pair after the step x
--   Lifted       what it makes: those of the pair before it
--
-- Letters: h is the sent degree of g and 1; x is a step, with the degrees d and e before it; r, o are multipliers, k the factor of gamma.
use Rattle.std.specs.Prelude.{◌≡◌, List, ℕ, ◌+◌, ◌-◌, ◌<◌, ◌≤◌, length}
use Rattle.definitions.specs.Polynomials.{constant}
use Rattle.windows.specs.Window.{Around, Apart, Below}
use Rattle.euclid_steps.specs.Steps.{Falls, Lifts}
use Rattle.modulus.specs.declared.Modulus.{Modulus}
use Rattle.modulus.specs.Values.{value}
use Rattle.euclid_steps.specs.EuclidStages.{polynomial}
use Rattle.euclid_steps.specs.declared.Logged.{Logged}
use Rattle.euclid_steps.specs.declared.Found.{Found}

pub record Held (m : Modulus) (h d e u v : ℕ) (w : List ℕ) : Type 0 where
  pub room : h + h ≤ length w
  pub under_u : u + h ≤ h + h
  pub under_v : v + h ≤ h + h
  pub apart : Apart u h v h
  pub below_u : Below m.n u h w
  pub below_v : Below m.n v h w
  pub first_ends : 1 ≤ e → (j : ℕ) → e ≤ j → polynomial m w u h j ≡ 0
  pub second_ends : (j : ℕ) → d ≤ j → polynomial m w v h j ≡ 0

pub record Ended (m : Modulus) (h e : ℕ) (w : List ℕ) (r : Found ℕ) (w' : List ℕ) : Type 0 where
  pub around : Around 0 (h + h) w w'
  pub held : Held m h 0 e r.u r.v w'
  pub d_is : r.d ≡ 0
  pub e_is : r.e ≡ e
  pub k_below : r.k < m.n
  pub one : (j : ℕ) → polynomial m w' r.u h j ≡ constant 1 j

pub record LiftAsked (m : Modulus) (h : ℕ) (x : Logged ℕ) (r : Found ℕ) (w : List ℕ) : Type 0 where
  pub held : Held m h r.d r.e r.u r.v w
  pub falls : Falls x.d x.e r.d r.e x.c x.swap
  pub one : 1 ≤ x.d
  pub near : x.d ≤ x.e
  pub high : x.e < h
  pub y_below : x.y < m.n
  pub c_below : x.c < m.n
  pub q_below : x.k < m.n
  pub k_below : r.k < m.n

pub record Lifted (m : Modulus) (h : ℕ) (x : Logged ℕ) (r : Found ℕ) (w : List ℕ) (o : Found ℕ) (w' : List ℕ) : Type 0 where
  pub around : Around 0 (h + h) w w'
  pub held : Held m h x.d x.e o.u o.v w'
  pub d_is : o.d ≡ x.d
  pub e_is : o.e ≡ x.e
  pub k_below : o.k < m.n
  pub lifts : Lifts m.n (x.e - x.d) (value m o.k) (polynomial m w' o.u h) (polynomial m w' o.v h)
      (value m r.k) (polynomial m w r.u h) (polynomial m w r.v h)
      (value m x.y) (m.n - value m x.c) (m.n - value m x.k) x.swap
