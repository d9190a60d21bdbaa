-- What a step makes of the degrees, and trails in a buffer that changes elsewhere.
--
--   falls_least, falls_degree, bit_small    no degree grows; that of g stays 1 or more; the bit of a step is 0 or 1
--   trail_kept                              a trail depends on no words but its own in the log
--   trail_next                              one step more
--   trail_degree                            the degree of g stays 1 or more on the whole trail
--   trail_none                              no step
use mathlib.Core.Path.{◌≡◌, refl, sym, ◌∙◌, subst}
use mathlib.Core.List.{List}
use mathlib.Core.Bool.{Bool, true, false}
use mathlib.Core.Logic.{⊎_elim}
use Prim.Native.Nat.{ℕ, zero, suc, ◌+◌, ◌-◌, ◌*◌, ◌≤◌, ◌<◌}
use native.Mathlib.Omega.{arith}
use lib.ListN.{get_or}
use Rattle.modulus.specs.declared.Modulus.{Modulus}
use Rattle.modulus.specs.Values.{value}
use Rattle.euclid_steps.specs.declared.Logged.{Logged}
use Rattle.euclid_steps.specs.Steps.{Falls, Moves}
use Rattle.euclid_steps.specs.Trails.{bit, LoggedAt, Trail}

-- ---- the degrees

pub falls_least : (d e d' e' c : ℕ) (b : Bool) → d ≤ e → Falls d e d' e' c b → (d' ≤ d) × (e' ≤ e)
falls_least d e d' e' c true l f = (omega (arith, f.1.0), omega (arith, f.1.1))
falls_least d e d' e' c false l f =
    ⊎_elim (λ p. (omega (arith, p.0), omega (arith, p.1))) (λ p. (omega (arith, p.0), omega (arith, p.1))) f.1

pub falls_degree : (d e d' e' c : ℕ) (b : Bool) → 1 ≤ d → Falls d e d' e' c b → 1 ≤ e'
falls_degree d e d' e' c true l f = omega (arith, f.1.1)
falls_degree d e d' e' c false l f = f.0

pub bit_small : (d e d' e' c : ℕ) (b : Bool) → Falls d e d' e' c b → bit d e e' b ≤ 1
bit_small d e d' e' c true f = ⊎_elim (λ p. omega arith) (λ p. omega (arith, p.0)) f.0
bit_small d e d' e' c false f = ⊎_elim (λ p. omega (arith, p.1)) (λ p. omega (arith, p.1)) f.1

-- ---- trails

logged_kept : {at e : ℕ} {x : Logged ℕ} {w v : List ℕ} → ((k : ℕ) → at ≤ k → k < at + 5 → get_or v k 0 ≡ get_or w k 0) → LoggedAt at e x w
    → LoggedAt at e x v
logged_kept {at} h l = record {
  swap_is = h at (omega arith) (omega arith) ∙ l.swap_is;
  bit_is = h (at + 1) (omega arith) (omega arith) ∙ l.bit_is;
  y_is = h (at + 2) (omega arith) (omega arith) ∙ l.y_is;
  c_is = h (at + 3) (omega arith) (omega arith) ∙ l.c_is;
  k_is = h (at + 4) (omega arith) (omega arith) ∙ l.k_is;
}

pub trail_kept : (m : Modulus) (h : ℕ) (w v : List ℕ) (F₀ G₀ : ℕ → ℕ) (d₀ e₀ j : ℕ) (F G : ℕ → ℕ) (d e : ℕ)
    → ((k : ℕ) → h + h ≤ k → k < h + h + 5 * j → get_or v k 0 ≡ get_or w k 0) → Trail m h w F₀ G₀ d₀ e₀ j F G d e
    → Trail m h v F₀ G₀ d₀ e₀ j F G d e
unfolding Trail
trail_kept m h w v F₀ G₀ d₀ e₀ zero F G d e k t = t
trail_kept m h w v F₀ G₀ d₀ e₀ (suc j) F G d e k t = record {
  x = t.x;
  F' = t.F';
  G' = t.G';
  logged = logged_kept (λ i p q. k i (omega arith) (omega arith)) t.logged;
  before = trail_kept m h w v F₀ G₀ d₀ e₀ j t.F' t.G' t.x.d t.x.e (λ i p q. k i p (omega arith)) t.before;
  one = t.one;
  near = t.near;
  high = t.high;
  y_below = t.y_below;
  c_below = t.c_below;
  k_below = t.k_below;
  falls = t.falls;
  moves = t.moves;
}

trail_more : (m : Modulus) (h : ℕ) (w : List ℕ) (F₀ G₀ : ℕ → ℕ) (d₀ e₀ j : ℕ) (F G F₁ G₁ : ℕ → ℕ) (d e : ℕ) (x : Logged ℕ)
    → Trail m h w F₀ G₀ d₀ e₀ j F G x.d x.e → LoggedAt (h + h + 5 * j) e x w → (1 ≤ x.d) × ((x.d ≤ x.e) × (x.e < h))
    → (x.y < m.n) × ((x.c < m.n) × (x.k < m.n)) → Falls x.d x.e d e x.c x.swap
    → Moves m.n (x.e - x.d) F G F₁ G₁ (value m x.y) (m.n - value m x.c) (m.n - value m x.k) x.swap
    → Trail m h w F₀ G₀ d₀ e₀ (suc j) F₁ G₁ d e
unfolding Trail
trail_more m h w F₀ G₀ d₀ e₀ j F G F₁ G₁ d e x t l a b f mv = record {
  x = x;
  F' = F;
  G' = G;
  logged = l;
  before = t;
  one = a.0;
  near = a.1.0;
  high = a.1.1;
  y_below = b.0;
  c_below = b.1.0;
  k_below = b.1.1;
  falls = f;
  moves = mv;
}

pub trail_next : (m : Modulus) (h : ℕ) (w : List ℕ) (F₀ G₀ : ℕ → ℕ) (d₀ e₀ j j' : ℕ) (F G F₁ G₁ : ℕ → ℕ) (d e : ℕ) (x : Logged ℕ)
    → Trail m h w F₀ G₀ d₀ e₀ j F G x.d x.e → LoggedAt (h + h + 5 * j) e x w → (1 ≤ x.d) × ((x.d ≤ x.e) × (x.e < h))
    → (x.y < m.n) × ((x.c < m.n) × (x.k < m.n)) → Falls x.d x.e d e x.c x.swap
    → Moves m.n (x.e - x.d) F G F₁ G₁ (value m x.y) (m.n - value m x.c) (m.n - value m x.k) x.swap → j' ≡ j + 1
    → Trail m h w F₀ G₀ d₀ e₀ j' F₁ G₁ d e
trail_next m h w F₀ G₀ d₀ e₀ j j' F G F₁ G₁ d e x t l a b f mv is =
    let z : j' ≡ suc j = omega arith in
    subst (λ (i : ℕ). Trail m h w F₀ G₀ d₀ e₀ i F₁ G₁ d e) (sym z) (trail_more m h w F₀ G₀ d₀ e₀ j F G F₁ G₁ d e x t l a b f mv)

pub trail_none : (m : Modulus) (h : ℕ) (w : List ℕ) (F G : ℕ → ℕ) (d e : ℕ) → Trail m h w F G d e 0 F G d e
unfolding Trail
trail_none m h w F G d e = (refl, (refl, (refl, refl)))

pub trail_degree : (m : Modulus) (h : ℕ) (w : List ℕ) (F₀ G₀ : ℕ → ℕ) (d₀ e₀ j : ℕ) (F G : ℕ → ℕ) (d e : ℕ)
    → Trail m h w F₀ G₀ d₀ e₀ j F G d e → 1 ≤ e₀ → 1 ≤ e
unfolding Trail
trail_degree m h w F₀ G₀ d₀ e₀ zero F G d e t l = omega (arith, t.1.1.1)
trail_degree m h w F₀ G₀ d₀ e₀ (suc j) F G d e t l =
    falls_degree t.x.d t.x.e d e t.x.c t.x.swap t.one t.falls
