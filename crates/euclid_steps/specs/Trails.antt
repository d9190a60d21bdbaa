-- The log of the steps, five words a step from 2 h on, and what it says: how the pair at the beginning came to the pair where the run
-- stands.
--
--   flag, bit    what is kept of the degrees: whether f took the place of g; with it e - d, without it whether g lost its top word
--   LoggedAt     the five words of a step stand in the buffer
--   Passed       the last step of a trail
--   Trail        j steps from F₀, G₀ of degrees d₀, e₀ to F, G of degrees d, e, each in the log
--
-- Letters: h is the sent degree of g and 1; F, G are the pair as what their words stand for; x is a step, d, e the degrees after it.
use Rattle.std.specs.Prelude.{◌≡◌, List, Bool, true, false, ℕ, zero, suc, ◌+◌, ◌-◌, ◌*◌, ◌<◌, ◌≤◌, get_or}
use Rattle.modulus.specs.declared.Modulus.{Modulus}
use Rattle.modulus.specs.Values.{value}
use Rattle.euclid_steps.specs.Steps.{Falls, Moves}
use Rattle.euclid_steps.specs.declared.Logged.{Logged}

abbrev pub flag : Bool → ℕ
flag true = 1
flag false = 0

abbrev pub bit : ℕ → ℕ → ℕ → Bool → ℕ
bit d e e' true = e - d
bit d e e' false = e - e'

pub record LoggedAt (at e : ℕ) (x : Logged ℕ) (w : List ℕ) : Type 0 where
  pub swap_is : get_or w at 0 ≡ flag x.swap
  pub bit_is : get_or w (at + 1) 0 ≡ bit x.d x.e e x.swap
  pub y_is : get_or w (at + 2) 0 ≡ x.y
  pub c_is : get_or w (at + 3) 0 ≡ x.c
  pub k_is : get_or w (at + 4) 0 ≡ x.k

-- T is the trail before the step x
pub record Passed (m : Modulus) (h at : ℕ) (w : List ℕ) (T : (ℕ → ℕ) → (ℕ → ℕ) → ℕ → ℕ → Type 0) (F G : ℕ → ℕ) (d e : ℕ) : Type 0 where
  pub x : Logged ℕ
  pub F' : ℕ → ℕ
  pub G' : ℕ → ℕ
  pub logged : LoggedAt at e x w
  pub before : T F' G' x.d x.e
  pub one : 1 ≤ x.d
  pub near : x.d ≤ x.e
  pub high : x.e < h
  pub y_below : x.y < m.n
  pub c_below : x.c < m.n
  pub k_below : x.k < m.n
  pub falls : Falls x.d x.e d e x.c x.swap
  pub moves : Moves m.n (x.e - x.d) F' G' F G (value m x.y) (m.n - value m x.c) (m.n - value m x.k) x.swap

unfoldable pub Trail : Modulus → ℕ → List ℕ → (ℕ → ℕ) → (ℕ → ℕ) → ℕ → ℕ → ℕ → (ℕ → ℕ) → (ℕ → ℕ) → ℕ → ℕ → Type 0
Trail m h w F₀ G₀ d₀ e₀ zero F G d e = (F ≡ F₀) × ((G ≡ G₀) × ((d ≡ d₀) × (e ≡ e₀)))
Trail m h w F₀ G₀ d₀ e₀ (suc j) F G d e = Passed m h (h + h + 5 * j) w (Trail m h w F₀ G₀ d₀ e₀ j) F G d e
