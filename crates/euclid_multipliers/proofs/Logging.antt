-- A step read from the log.
--
--   reads_pair, reads_last, reads_elimination, reads_drop      the step that the words tell
--   reading                                                    the rules
use mathlib.Core.Path.{◌≡◌, refl, ◌∙◌, ap₂}
use mathlib.Core.List.{List}
use mathlib.Core.Bool.{Bool, true, false}
use mathlib.Core.Logic.{⊎_elim}
use Prim.Native.Nat.{ℕ, ◌+◌}
use native.Mathlib.Omega.{arith}
use lib.ListN.{get_or}
use borrow.Author.Rules.{rules}
use Rattle.euclid_steps.specs.declared.Logged.{Logged}
use Rattle.euclid_steps.specs.Steps.{Falls}
use Rattle.euclid_steps.specs.Trails.{flag, bit, LoggedAt}
use Rattle.euclid_multipliers.specs.StepsInBuffer.{Reads}
use Rattle.euclid_multipliers.proofs.Trailing.{bit_small}

logged_same : (r x : Logged ℕ) → r.d ≡ x.d → r.e ≡ x.e → r.y ≡ x.y → r.c ≡ x.c → r.k ≡ x.k → r.swap ≡ x.swap → r ≡ x
logged_same r x hd he hy hc hk hs =
    ap₂ {C = Logged ℕ} (λ (d e : ℕ). record { d = d; e = e; y = r.y; c = r.c; k = r.k; swap = r.swap }) hd he
    ∙ ap₂ {C = Logged ℕ} (λ (y c : ℕ). record { d = x.d; e = x.e; y = y; c = c; k = r.k; swap = r.swap }) hy hc
    ∙ ap₂ {C = Logged ℕ} (λ (k : ℕ) (b : Bool). record { d = x.d; e = x.e; y = x.y; c = x.c; k = k; swap = b }) hk hs

-- the degrees before a step, from those after it and what the log keeps
swapped : (d e d' e' c b f : ℕ) (s : Bool) → f ≡ flag s → (f ≡ 0 → ⊥) → Falls d e d' e' c s → b ≡ bit d e e' s
    → (true ≡ s) × ((d' + 1 ≡ d) × (d' + 1 + b ≡ e))
swapped d e d' e' c b f true is z l h =
    (refl, (l.1.0, ⊎_elim (λ p. omega (arith, l.1.0)) (λ p. omega (arith, l.1.0, p.0)) l.0))
swapped d e d' e' c b f false is z l h = absurd (z is)

eliminated : (d e d' e' c b f : ℕ) (s : Bool) → f ≡ flag s → f ≡ 0 → Falls d e d' e' c s → b ≡ bit d e e' s → (b ≡ 0 → ⊥)
    → (false ≡ s) × ((d' ≡ d) × (e' + 1 ≡ e))
eliminated d e d' e' c b f true is z l h o = absurd (omega arith)
eliminated d e d' e' c b f false is z l h o = (refl, ⊎_elim (λ p. p) (λ p. absurd (o (omega (arith, p.1)))) l.1)

dropped : (d e d' e' c b f : ℕ) (s : Bool) → f ≡ flag s → f ≡ 0 → Falls d e d' e' c s → b ≡ bit d e e' s → b ≡ 0
    → (false ≡ s) × ((d' + 1 ≡ d) × (e' ≡ e))
dropped d e d' e' c b f true is z l h o = absurd (omega arith)
dropped d e d' e' c b f false is z l h o = (refl, ⊎_elim (λ p. absurd (omega (arith, p.1))) (λ p. p) l.1)

-- the step of the degrees d and e whose words stand in the log
abbrev pub step_at : ℕ → List ℕ → ℕ → ℕ → Bool → Logged ℕ
step_at at w d e s = record { d = d; e = e; y = get_or w (at + 2) 0; c = get_or w (at + 3) 0; k = get_or w (at + 4) 0; swap = s }

module _ (at d e : ℕ) (w : List ℕ) where
  read_as : (d₀ e₀ : ℕ) (s : Bool) (x : Logged ℕ) → LoggedAt at e x w → (s ≡ x.swap) × ((d₀ ≡ x.d) × (e₀ ≡ x.e)) → step_at at w d₀ e₀ s ≡ x
  read_as d₀ e₀ s x l h = logged_same (step_at at w d₀ e₀ s) x h.1.0 h.1.1 l.y_is l.c_is l.k_is h.0

  pub reads_pair : (get_or w at 0 ≡ 0 → ⊥) → (get_or w (at + 1) 0 ≡ 0 → ⊥) → Reads at d e w (step_at at w (d + 1) (d + 2) true)
  reads_pair z o = record {
    is = λ x l f. let p = swapped x.d x.e d e x.c (get_or w (at + 1) 0) (get_or w at 0) x.swap l.swap_is z f l.bit_is in
        read_as (d + 1) (d + 2) true x l
        (p.0, (p.1.0, omega (arith, p.1.1, l.bit_is, o, bit_small x.d x.e d e x.c x.swap f)));
  }

  pub reads_last : (get_or w at 0 ≡ 0 → ⊥) → get_or w (at + 1) 0 ≡ 0 → Reads at d e w (step_at at w (d + 1) (d + 1) true)
  reads_last z o = record {
    is = λ x l f. let p = swapped x.d x.e d e x.c (get_or w (at + 1) 0) (get_or w at 0) x.swap l.swap_is z f l.bit_is in
        read_as (d + 1) (d + 1) true x l (p.0, (p.1.0, omega (arith, p.1.1, o)));
  }

  pub reads_elimination : get_or w at 0 ≡ 0 → (get_or w (at + 1) 0 ≡ 0 → ⊥) → Reads at d e w (step_at at w d (e + 1) false)
  reads_elimination z o = record {
    is = λ x l f. read_as d (e + 1) false x l
        (eliminated x.d x.e d e x.c (get_or w (at + 1) 0) (get_or w at 0) x.swap l.swap_is z f l.bit_is o);
  }

  pub reads_drop : get_or w at 0 ≡ 0 → get_or w (at + 1) 0 ≡ 0 → Reads at d e w (step_at at w (d + 1) e false)
  reads_drop z o = record {
    is = λ x l f. read_as (d + 1) e false x l
        (dropped x.d x.e d e x.c (get_or w (at + 1) 0) (get_or w at 0) x.swap l.swap_is z f l.bit_is o);
  }

pub ruleset reading = (rules, reads_pair, reads_last, reads_elimination, reads_drop)
