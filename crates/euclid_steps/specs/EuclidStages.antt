-- Where a run of Euclid without inverses stands, for words in any form: the notions of `resultant_pseudo`, of what the words and the
-- products
-- of a stage stand for. The words themselves are residues, and so are the products.
--
--   Standing     the pair of a stage stands in the buffer
--   meant        the stage as a state of the laws, with its products as what they stand for
--   Reaches      from one pair to another: residues again, and led as what they stand for is
--   Stepped, Finished     a step; all steps
--   polynomial   what the words of a window stand for, as a polynomial
--   Placing      where the two polynomials stand after a step
--   Told         what a step did: nothing outside the window of g is changed, how the degrees fall, and the equation of the step
use Rattle.std.specs.Prelude.{◌≡◌, List, Bool, true, false, ℕ, ◌+◌, ◌-◌, ◌<◌}
use Rattle.definitions.specs.Polynomials.{coef}
use Rattle.windows.specs.Window.{piece, Around}
use Rattle.modulus.specs.declared.Modulus.{Modulus}
use Rattle.modulus.specs.Values.{value, values}
use Rattle.resultant_pseudo.specs.StandingRuns.{Placed, StateReachedAt}
use Rattle.resultant_pseudo.specs.declared.State.{State}
use Rattle.euclid_steps.specs.Steps.{Falls, Moves}
use Rattle.euclid_steps.specs.declared.Stage.{Stage}

pub record Standing (m : Modulus) (x : Stage ℕ) (w : List ℕ) : Type 0 where
  pub placed : Placed m.n x.a x.d x.b x.e w
  pub s_below : x.s < m.n
  pub p_below : x.p < m.n
  pub t_below : x.t < m.n

abbrev pub meant : Modulus → Stage ℕ → State
meant m x = record { a = x.a; d = x.d; b = x.b; e = x.e; s = value m x.s; p = value m x.p; t = value m x.t }

pub record Reaches (m : Modulus) (x : Stage ℕ) (w : List ℕ) (y : Stage ℕ) (v : List ℕ) : Type 0 where
  pub standing : Standing m y v
  pub state_reached : StateReachedAt m.n (meant m x) (values m w) (meant m y) (values m v)

abbrev pub Stepped : Modulus → Stage ℕ → List ℕ → Stage ℕ → List ℕ → Type 0
Stepped m x w y v = (Reaches m x w y v) × (y.d + y.e < x.d + x.e)

abbrev pub Finished : Modulus → Stage ℕ → List ℕ → Stage ℕ → List ℕ → Type 0
Finished m x w y v = (Reaches m x w y v) × (y.d ≡ 0)

abbrev pub polynomial : Modulus → List ℕ → ℕ → ℕ → ℕ → ℕ
polynomial m w a l = coef (piece (values m w) a l)

-- where the two polynomials stand after the step
abbrev pub Placing : Stage ℕ → Stage ℕ → Bool → Type 0
Placing x z true = (z.a ≡ x.b) × (z.b ≡ x.a)
Placing x z false = (z.a ≡ x.a) × (z.b ≡ x.b)

pub record Told (m : Modulus) (x : Stage ℕ) (w : List ℕ) (z : Stage ℕ) (v : List ℕ) : Type 0 where
  pub around : Around x.b (x.e + 1) w v
  pub y_below : z.y < m.n
  pub c_below : z.c < m.n
  pub k_below : z.k < m.n
  pub places : Placing x z z.swap
  pub falls : Falls x.d x.e z.d z.e z.c z.swap
  pub moves : Moves m.n (x.e - x.d) (polynomial m w x.a (x.d + 1)) (polynomial m w x.b (x.e + 1))
      (polynomial m v z.a (z.d + 1)) (polynomial m v z.b (z.e + 1))
      (value m z.y) (m.n - value m z.c) (m.n - value m z.k) z.swap
