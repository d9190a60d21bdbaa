-- The steps down and back, in the buffer.
--
--   Reads           a step read from the log: the one that was written, whichever it was
--   DescentAsked    what the steps down ask: the pair in the two windows, and room for the log
--   stage           where the steps down ended, as a stage
--   f_at, g_at      the pair of a stage, as what its words stand for
--   TrailTo         the log is a trail from the pair of x, with the words w, to that of y, with the words v
--   Descending      between the steps down: what is known of the resultant is led to y, and the log is the trail
--   Descended       after the last
--   Rising          on the way back, i steps from the beginning: the multipliers of the pair there give the constant C
--   Rises           what the way back asks: some trail
--   Raising         between the steps back, of every trail: i steps are left
--   Raised          after the last: the multipliers of the first pair
--   Started         f and g stand in the buffer, as what they are modulo n
--
-- Letters: h is the length of a window; x, y are stages, r, o multipliers, w the words before and v those after.
use Rattle.std.specs.Prelude.{◌≡◌, List, false, ℕ, ◌+◌, ◌-◌, ◌*◌, ◌%◌, ◌<◌, ◌≤◌, length}
use Rattle.definitions.specs.Polynomials.{coef}
use Rattle.definitions.specs.Resultants.{resultant}
use Rattle.windows.specs.Window.{piece}
use Rattle.modulus.specs.declared.Modulus.{Modulus}
use Rattle.modulus.specs.Values.{value, values}
use Rattle.euclid_steps.specs.declared.Stage.{Stage}
use Rattle.euclid_steps.specs.declared.Logged.{Logged}
use Rattle.euclid_steps.specs.declared.Found.{Found}
use Rattle.euclid_steps.specs.Steps.{Falls, Bound}
use Rattle.euclid_steps.specs.EuclidStages.{Standing, Reaches, polynomial}
use Rattle.euclid_steps.specs.Backs.{Held}
use Rattle.euclid_steps.specs.Trails.{LoggedAt, Trail}
use Rattle.euclid_multipliers.specs.declared.Descent.{Descent}

pub record Reads (at d e : ℕ) (w : List ℕ) (r : Logged ℕ) : Type 0 where
  pub is : (x : Logged ℕ) → LoggedAt at e x w → Falls x.d x.e d e x.c x.swap → r ≡ x

pub record DescentAsked (m : Modulus) (h : ℕ) (x : Stage ℕ) (w : List ℕ) : Type 0 where
  pub standing : Standing m x w
  pub under_a : x.a + h ≤ h + h
  pub under_b : x.b + h ≤ h + h
  pub high : x.e < h
  pub room : h + h + 5 * (x.d + x.e) ≤ length w

abbrev pub stage : Descent → Stage ℕ
stage r = record { a = r.a; d = r.d; b = r.b; e = r.e; s = r.s; p = r.p; t = r.t; y = 0; c = 0; k = 0; swap = false }

abbrev pub f_at : Modulus → Stage ℕ → List ℕ → ℕ → ℕ
f_at m x w = polynomial m w x.a (x.d + 1)

abbrev pub g_at : Modulus → Stage ℕ → List ℕ → ℕ → ℕ
g_at m x w = polynomial m w x.b (x.e + 1)

abbrev pub TrailTo : Modulus → ℕ → Stage ℕ → List ℕ → ℕ → Stage ℕ → List ℕ → Type 0
TrailTo m h x w j y v = Trail m h v (f_at m x w) (g_at m x w) x.d x.e j (f_at m y v) (g_at m y v) y.d y.e

pub record Descending (m : Modulus) (h : ℕ) (x : Stage ℕ) (w : List ℕ) (j : ℕ) (y : Stage ℕ) (v : List ℕ) : Type 0 where
  pub same : length v ≡ length w
  pub reaching : Reaches m x w y v
  pub trail : TrailTo m h x w j y v
  pub under_a : y.a + h ≤ h + h
  pub under_b : y.b + h ≤ h + h
  pub high : y.e < h
  pub room : h + h + 5 * j + 5 * (y.d + y.e) ≤ length v

pub record Descended (m : Modulus) (h : ℕ) (x : Stage ℕ) (w : List ℕ) (r : Descent) (v : List ℕ) : Type 0 where
  pub descending : Descending m h x w r.steps (stage r) v
  pub none : r.d ≡ 0

pub record Rising (m : Modulus) (h : ℕ) (F₀ G₀ : ℕ → ℕ) (d₀ e₀ C i : ℕ) (o : Found ℕ) (w : List ℕ) : Type 0 where
  pub F : ℕ → ℕ
  pub G : ℕ → ℕ
  pub trail : Trail m h w F₀ G₀ d₀ e₀ i F G o.d o.e
  pub room : h + h + 5 * i ≤ length w
  pub held : Held m h o.d o.e o.u o.v w
  pub k_below : o.k < m.n
  pub bound : Bound m.n F G (value m o.k) (polynomial m w o.u h) (polynomial m w o.v h) C

pub record Rises (m : Modulus) (h j : ℕ) (r : Found ℕ) (w : List ℕ) : Type 0 where
  pub F₀ : ℕ → ℕ
  pub G₀ : ℕ → ℕ
  pub d₀ : ℕ
  pub e₀ : ℕ
  pub C : ℕ
  pub rising : Rising m h F₀ G₀ d₀ e₀ C j r w

pub record Raising (m : Modulus) (h j : ℕ) (r : Found ℕ) (w : List ℕ) (i : ℕ) (o : Found ℕ) (v : List ℕ) : Type 0 where
  pub same : length v ≡ length w
  pub most : i ≤ j
  pub rising : (F₀ G₀ : ℕ → ℕ) (d₀ e₀ C : ℕ) → Rising m h F₀ G₀ d₀ e₀ C j r w → Rising m h F₀ G₀ d₀ e₀ C i o v

abbrev pub Raised : Modulus → ℕ → ℕ → Found ℕ → List ℕ → Found ℕ → List ℕ → Type 0
Raised m h j r w o v = Raising m h j r w 0 o v

pub record Started (m : Modulus) (f g w : List ℕ) (x : Stage ℕ) (v : List ℕ) : Type 0 where
  pub same : length v ≡ length w
  pub asked : DescentAsked m (length g) x v
  pub d_is : x.d ≡ length f - 1
  pub e_is : x.e ≡ length g - 1
  pub s_is : value m x.s ≡ 1
  pub p_is : value m x.p ≡ 1
  pub t_is : value m x.t ≡ 1
  pub first : (i : ℕ) → f_at m x v i % m.n ≡ coef f i % m.n
  pub second : (i : ℕ) → g_at m x v i % m.n ≡ coef g i % m.n
  pub resultant_is : resultant m.n (piece (values m v) x.a (x.d + 1)) (piece (values m v) x.b (x.e + 1)) ≡ resultant m.n f g
