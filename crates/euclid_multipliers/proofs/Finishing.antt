-- The whole run.
--
--   multiplied    the multipliers of f and g, and the resultant's equation
--   scratched     the buffer keeps its length
use mathlib.Core.Path.{◌≡◌, refl, sym, ap, ◌∙◌, subst}
use mathlib.Core.List.{List}
use Prim.Native.Nat.{ℕ, ◌+◌, ◌-◌, ◌*◌, ◌%◌, ◌^◌, ◌≤◌, ◌<◌}
use native.Mathlib.Omega.{arith}
use lib.ListN.{length, get_or}
use Rattle.law_numbers.specs.Congruence.{c_refl, c_add, c_mul}
use Rattle.definitions.specs.Polynomials.{coef, deg}
use Rattle.definitions.specs.Resultants.{resultant}
use Rattle.law_polynomials.specs.ReachedSteps.{convolve_mod}
use Rattle.windows.specs.Window.{Scratch}
use Rattle.modulus.specs.declared.Modulus.{Modulus}
use Rattle.modulus.specs.Values.{value, values}
use Rattle.resultant_signs.specs.Degrees.{deg_of}
use Rattle.resultant_pseudo.specs.StandingRuns.{StateReached, Descended as DescendedTo}
use Rattle.resultant_pseudo.proofs.Stepping.{descended}
use Rattle.resultant_euclid.proofs.Steps.{standing_values}
use Rattle.euclid_steps.specs.declared.Stage.{Stage}
use Rattle.euclid_steps.specs.declared.Found.{Found}
use Rattle.euclid_steps.specs.declared.Ending.{Ending}
use Rattle.euclid_steps.specs.Plain.{Sound, values_at}
use Rattle.euclid_steps.specs.Steps.{Bound}
use Rattle.euclid_steps.specs.EuclidStages.{polynomial, meant}
use Rattle.euclid_steps.specs.Backs.{Ended}
use Rattle.euclid_steps.specs.Trails.{Trail}
use Rattle.euclid_steps.specs.Multiplied.{Asked, Multiplied}
use Rattle.euclid_multipliers.specs.StepsInBuffer.{Started, Descended, Raised, Rising, stage, f_at, g_at}
use Rattle.euclid_multipliers.specs.declared.Descent.{Descent}
use Rattle.euclid_multipliers.proofs.Trailing.{trail_degree}
use Rattle.euclid_multipliers.proofs.Rounds.{bottomed}

-- no step: the pair is the first one
at_first : (m : Modulus) (h : ℕ) (w : List ℕ) (F₀ G₀ : ℕ → ℕ) (d₀ e₀ : ℕ) (F G : ℕ → ℕ) (d e : ℕ) → Trail m h w F₀ G₀ d₀ e₀ 0 F G d e
    → (F ≡ F₀) × ((G ≡ G₀) × ((d ≡ d₀) × (e ≡ e₀)))
unfolding Trail
at_first m h w F₀ G₀ d₀ e₀ F G d e t = t

module _ {m : Modulus} {f g w : List ℕ} {x : Stage ℕ} {w₁ : List ℕ} {y : Descent} {w₂ : List ℕ} {z : Found ℕ} {w₃ : List ℕ} {r : Found ℕ}
    {w₄ : List ℕ} (sound : Sound m) (two : 2 ≤ m.n) (k : Asked f g w) (st : Started m f g w x w₁) (ds : Descended m (length g) x w₁ y w₂)
    (bt : Ended m (length g) y.e w₂ z w₃) (rs : Raised m (length g) y.steps z w₃ r w₄) where
  abbrev C : ℕ
  C = value m (get_or w₂ y.a 0)

  abbrev F₀ : ℕ → ℕ
  F₀ = f_at m x w₁

  abbrev G₀ : ℕ → ℕ
  G₀ = g_at m x w₁

  top : Rising m (length g) F₀ G₀ x.d x.e C 0 r w₄
  top = rs.rising F₀ G₀ x.d x.e C (bottomed sound ds bt)

  ends : (top.F ≡ F₀) × ((top.G ≡ G₀) × ((r.d ≡ x.d) × (r.e ≡ x.e)))
  ends = at_first m (length g) w₄ F₀ G₀ x.d x.e top.F top.G r.d r.e top.trail

  deg_f : deg f ≡ x.d
  deg_f = deg_of f (length f - 1) (omega (arith, k.some)) ∙ sym st.d_is

  deg_g : deg g ≡ x.e
  deg_g = deg_of g (length g - 1) (omega (arith, k.some, k.order)) ∙ sym st.e_is

  first_bound : Bound m.n F₀ G₀ (value m r.k) (polynomial m w₄ r.u (length g)) (polynomial m w₄ r.v (length g)) C
  first_bound =
      subst (λ (p : ℕ → ℕ). Bound m.n p G₀ (value m r.k) (polynomial m w₄ r.u (length g)) (polynomial m w₄ r.v (length g)) C)
      ends.0
      (subst (λ (p : ℕ → ℕ). Bound m.n top.F p (value m r.k) (polynomial m w₄ r.u (length g))
      (polynomial m w₄ r.v (length g)) C) ends.1.0 top.bound)

  pos : 1 ≤ m.n
  pos = omega arith

  bound_at : Bound m.n (coef f) (coef g) (value m r.k) (polynomial m w₄ r.u (length g)) (polynomial m w₄ r.v (length g)) C
  bound_at = record {
    at = λ i.
        (c_add (record {
          same = convolve_mod m.n pos (polynomial m w₄ r.u (length g)) (polynomial m w₄ r.u (length g)) (coef f) F₀
              (λ j. refl) (λ j. sym (st.first j)) i;
        })
        (c_mul (c_refl {a = value m r.k}) (record {
          same = convolve_mod m.n pos (polynomial m w₄ r.v (length g))
              (polynomial m w₄ r.v (length g)) (coef g) G₀ (λ j. refl) (λ j. sym (st.second j)) i;
        }))).same
        ∙ first_bound.at i;
  }

  abbrev StateReachedFrom : ℕ → ℕ → ℕ → Type 0
  StateReachedFrom s p t = StateReached m.n x.a x.d x.b x.e s p t (values m w₁) y.a y.d y.b y.e (value m y.s)
      (value m y.p) (value m y.t) (values m w₂)

  state_reached : StateReachedFrom 1 1 1
  state_reached =
      subst (λ (s : ℕ). StateReachedFrom s 1 1) st.s_is
      (subst (λ (p : ℕ). StateReachedFrom (value m x.s) p 1) st.p_is
      (subst (λ (t : ℕ). StateReachedFrom (value m x.s) (value m x.p) t) st.t_is ds.descending.reaching.state_reached))

  reached : DescendedTo m.n x.a x.d x.b x.e (values m w₁) (meant m (stage y)) (values m w₂)
  reached =
      descended m.n x.a x.d x.b x.e (values m w₁) (meant m (stage y)) (values m w₂)
      (standing_values m sound x.a x.d x.b x.e w₁ st.asked.standing.placed) state_reached ds.none

  none : (i : ℕ) → i + 0 ≡ i
  none i = omega arith

  multiplied_at : {c : ℕ} → c ≡ get_or w₂ y.a 0 → Multiplied m f g
      (record { u = r.u; v = r.v; k = r.k; c = c; s = y.s; p = y.p; t = y.t; e = y.e }) w₄
  multiplied_at {c} is = record {
    inside_u = omega (arith, top.held.under_u, top.held.room);
    inside_v = omega (arith, top.held.under_v, top.held.room);
    below_u = top.held.below_u;
    below_v = top.held.below_v;
    k_below = top.k_below;
    c_below = subst (λ (i : ℕ). i < m.n) (sym (is ∙ ap (λ (i : ℕ). get_or w₂ i 0) (sym (none y.a))))
        (ds.descending.reaching.standing.placed.pair.first.at 0 (omega arith));
    s_below = ds.descending.reaching.standing.s_below;
    p_below = ds.descending.reaching.standing.p_below;
    t_below = ds.descending.reaching.standing.t_below;
    bound = subst (λ (i : ℕ). Bound m.n (coef f) (coef g) (value m r.k) (polynomial m w₄ r.u (length g))
        (polynomial m w₄ r.v (length g)) (value m i)) (sym is) bound_at;
    first_ends = λ q j l. top.held.first_ends (omega (arith, q, deg_g, ends.1.1.1)) j (omega (arith, l, deg_g, ends.1.1.1));
    second_ends = λ j l. top.held.second_ends j (omega (arith, l, deg_f, ends.1.1.0));
    equation = ap (λ (i : ℕ). (value m y.s * i) % m.n) (sym st.resultant_is) ∙ reached.equation
        ∙ ap (λ (i : ℕ). (value m y.p * value m y.t * i ^ y.e) % m.n)
        (values_at m sound w₂ y.a ∙ ap (value m) (sym is));
    degree = λ q. trail_degree m (length g) w₂ F₀ G₀ x.d x.e y.steps (f_at m (stage y) w₂)
        (g_at m (stage y) w₂) y.d y.e ds.descending.trail (omega (arith, q, deg_g));
  }

  pub multiplied : {o : Ending ℕ} → record { u = r.u; v = r.v; k = r.k; c = get_or w₂ y.a 0; s = y.s; p = y.p; t = y.t; e = y.e } ≡ o
      → Multiplied m f g o w₄
  multiplied e = subst (λ (o : Ending ℕ). Multiplied m f g o w₄) e (multiplied_at refl)

  pub scratched : Scratch w w₄
  scratched = record { same = rs.same ∙ bt.around.same ∙ ds.descending.same ∙ st.same }
