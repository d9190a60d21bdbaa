-- The way back, over the trail that the log tells.
--
--   read_first, read_second, lift_asked     what a step backwards asks
--   raising_next              one step more
--   rounds                    the rules
--   bottomed                  the end of the steps down is where the way back begins
use mathlib.Core.Path.{◌≡◌, refl, sym, ◌∙◌, ap, ap₂, subst, fun_ext}
use mathlib.Core.List.{List}
use Prim.Native.Nat.{ℕ, zero, suc, ◌+◌, ◌-◌, ◌*◌, ◌%◌, ◌≤◌, ◌<◌}
use native.Mathlib.Omega.{arith}
use lib.ListN.{length, get_or}
use borrow.Author.Rules.{rules}
use Rattle.definitions.specs.Polynomials.{convolve, constant}
use Rattle.law_polynomials.specs.ReachedSteps.{convolve_constant}
use Rattle.windows.proofs.Leaf.{piece_at, piece_over}
use Rattle.modulus.specs.declared.Modulus.{Modulus}
use Rattle.modulus.specs.Values.{value, values}
use Rattle.euclid_steps.specs.declared.Stage.{Stage}
use Rattle.euclid_steps.specs.declared.Logged.{Logged}
use Rattle.euclid_steps.specs.declared.Found.{Found}
use Rattle.euclid_steps.specs.Plain.{Sound, values_at}
use Rattle.euclid_steps.specs.Steps.{bound_lifted}
use Rattle.euclid_steps.specs.EuclidStages.{polynomial}
use Rattle.euclid_steps.specs.Backs.{Held, Ended, LiftAsked, Lifted}
use Rattle.euclid_steps.specs.Trails.{Passed, Trail}
use Rattle.euclid_multipliers.specs.StepsInBuffer.{Reads, Descended, Rising, Rises, Raising, stage, f_at, g_at}
use Rattle.euclid_multipliers.specs.declared.Descent.{Descent}
use Rattle.euclid_multipliers.proofs.Trailing.{falls_least, trail_kept}

-- the last step of a trail
passed : (m : Modulus) (h : ℕ) (w : List ℕ) (F₀ G₀ : ℕ → ℕ) (d₀ e₀ i j : ℕ) (F G : ℕ → ℕ) (d e : ℕ) → j ≡ suc i
    → Trail m h w F₀ G₀ d₀ e₀ j F G d e → Passed m h (h + h + 5 * i) w (Trail m h w F₀ G₀ d₀ e₀ i) F G d e
unfolding Trail
passed m h w F₀ G₀ d₀ e₀ i j F G d e is t = subst (λ (k : ℕ). Trail m h w F₀ G₀ d₀ e₀ k F G d e) is t

module _ {m : Modulus} {h : ℕ} {F₀ G₀ : ℕ → ℕ} {d₀ e₀ C j : ℕ} {r : Found ℕ} {w : List ℕ} (k : Rising m h F₀ G₀ d₀ e₀ C j r w) (i : ℕ)
    (is : j ≡ suc i) where
  abbrev last : Passed m h (h + h + 5 * i) w (Trail m h w F₀ G₀ d₀ e₀ i) k.F k.G r.d r.e
  last = passed m h w F₀ G₀ d₀ e₀ i j k.F k.G r.d r.e is k.trail

  rising_read : (r.d + 2 ≤ length w) × (r.e + 1 ≤ length w)
  rising_read =
      let p = last in
      let l = falls_least p.x.d p.x.e r.d r.e p.x.c p.x.swap p.near p.falls in
      (omega (arith, k.room, is, l.0, p.near, p.high), omega (arith, k.room, is, l.1, p.high))

  module _ (x : Logged ℕ) (rd : Reads (h + h + 5 * i) r.d r.e w x) where
    is_last : x ≡ last.x
    is_last = rd.is last.x last.logged last.falls

    rising_asked : LiftAsked m h x r w
    rising_asked = subst (λ (z : Logged ℕ). LiftAsked m h z r w) (sym is_last) (record {
      held = k.held;
      falls = last.falls;
      one = last.one;
      near = last.near;
      high = last.high;
      y_below = last.y_below;
      c_below = last.c_below;
      q_below = last.k_below;
      k_below = k.k_below;
    })

    module _ (o : Found ℕ) (v : List ℕ) (pos : 1 ≤ m.n) (lx : Lifted m h x r w o v) where
      lifted : Lifted m h last.x r w o v
      lifted = subst (λ (z : Logged ℕ). Lifted m h z r w o v) is_last lx

      rising_next : Rising m h F₀ G₀ d₀ e₀ C i o v
      rising_next =
          let p = last in
          let l = lifted in
          record {
            F = p.F';
            G = p.G';
            trail = subst (λ (d : ℕ). Trail m h v F₀ G₀ d₀ e₀ i p.F' p.G' d o.e) (sym l.d_is)
                (subst (λ (e : ℕ). Trail m h v F₀ G₀ d₀ e₀ i p.F' p.G' p.x.d e) (sym l.e_is)
                (trail_kept m h w v F₀ G₀ d₀ e₀ i p.F' p.G' p.x.d p.x.e (λ q a b. l.around.high q (omega arith))
                p.before));
            room = omega (arith, k.room, is, l.around.same);
            held = subst (λ (d : ℕ). Held m h d o.e o.u o.v v) (sym l.d_is)
                (subst (λ (e : ℕ). Held m h p.x.d e o.u o.v v) (sym l.e_is) l.held);
            k_below = l.k_below;
            bound = bound_lifted m.n (p.x.e - p.x.d) pos p.F' p.G' k.F k.G
                (polynomial m v o.u h) (polynomial m v o.v h) (polynomial m w r.u h) (polynomial m w r.v h)
                (value m o.k) (value m r.k) (value m p.x.y) (m.n - value m p.x.c) (m.n - value m p.x.k) C p.x.swap
                p.moves l.lifts k.bound;
          }

-- ---- with any trail

module _ {m : Modulus} {h j : ℕ} {r : Found ℕ} {w : List ℕ} {i : ℕ} {o : Found ℕ} {v : List ℕ} (k : Rises m h j r w)
    (g : Raising m h j r w i o v) (more : 0 < i) where
  here : Rising m h k.F₀ k.G₀ k.d₀ k.e₀ k.C i o v
  here = g.rising k.F₀ k.G₀ k.d₀ k.e₀ k.C k.rising

  pub read_first : {d l : ℕ} → d ≡ o.d → l ≡ length v → d + 2 ≤ l
  read_first ed el = omega (arith, (rising_read here (i - 1) (omega arith)).0)

  pub read_second : {e l : ℕ} → e ≡ o.e → l ≡ length v → e + 1 ≤ l
  read_second ee el = omega (arith, (rising_read here (i - 1) (omega arith)).1)

module _ {m : Modulus} {h j : ℕ} {r : Found ℕ} {w : List ℕ} {i : ℕ} {o : Found ℕ} {v : List ℕ} (k : Rises m h j r w)
    (g : Raising m h j r w i o v) (i' : ℕ) (is : i' ≡ i - 1) (more : 0 < i) where
  next : i ≡ suc i'
  next = omega arith

  pub lift_asked : {x : Logged ℕ} → Reads (h + h + 5 * i') o.d o.e v x → LiftAsked m h x o v
  lift_asked {x} rd = rising_asked (here k g more) i' next x rd

  pub raising_next : {x : Logged ℕ} {o' : Found ℕ} {v' : List ℕ} → 2 ≤ m.n → Reads (h + h + 5 * i') o.d o.e v x → Lifted m h x o v o' v'
      → Raising m h j r w i' o' v'
  raising_next {x} {o'} {v'} two rd l = record {
    same = l.around.same ∙ g.same;
    most = omega (arith, g.most);
    rising = λ F₀ G₀ d₀ e₀ C q. rising_next (g.rising F₀ G₀ d₀ e₀ C q) i' next x rd o' v' (omega (arith, two)) l;
  }

pub ruleset rounds = (rules, read_first, read_second, lift_asked)

-- ---- the end of the steps down

module _ {m : Modulus} {h : ℕ} {x : Stage ℕ} {w : List ℕ} {y : Descent} {v : List ℕ} {r : Found ℕ} {v' : List ℕ} (sound : Sound m)
    (g : Descended m h x w y v) (b : Ended m h y.e v r v') where
  abbrev constant_at : ℕ
  constant_at = value m (get_or v y.a 0)

  none : (k : ℕ) → k + 0 ≡ k
  none k = omega arith

  -- the last f is a constant
  first_is : (k : ℕ) → f_at m (stage y) v k ≡ constant constant_at k
  first_is zero = piece_at (values m v) y.a (y.d + 1) 0 (omega arith) ∙ ap (λ (i : ℕ). get_or (values m v) i 0) (none y.a)
      ∙ values_at m sound v y.a
  first_is (suc k) = piece_over (values m v) y.a (y.d + 1) (suc k) (omega (arith, g.none))

  zeros : (k : ℕ) → constant 0 k ≡ 0
  zeros zero = refl
  zeros (suc k) = refl

  gamma_is : polynomial m v' r.v h ≡ constant 0
  gamma_is = fun_ext (λ k. b.held.second_ends k (omega arith) ∙ sym (zeros k))

  beta_is : polynomial m v' r.u h ≡ constant 1
  beta_is = fun_ext (λ k. b.one k)

  sum : (F G : ℕ → ℕ) (K k : ℕ) → (convolve (polynomial m v' r.u h) F k + K * convolve (polynomial m v' r.v h) G k) ≡ F k
  sum F G K k =
      ap₂ (λ (p q : ℕ → ℕ). convolve p F k + K * convolve q G k) beta_is gamma_is
      ∙ ap₂ (λ (p q : ℕ). p + K * q) (convolve_constant 1 F k) (convolve_constant 0 G k) ∙ elimination K (F k) (G k)
    where
      elimination : (K p q : ℕ) → 1 * p + K * (0 * q) ≡ p
      elimination K p q = omega arith

  pub bottomed : Rising m h (f_at m x w) (g_at m x w) x.d x.e constant_at y.steps r v'
  bottomed =
      let t = g.descending in
      record {
        F = f_at m (stage y) v;
        G = g_at m (stage y) v;
        trail = subst (λ (d : ℕ). Trail m h v' (f_at m x w) (g_at m x w) x.d x.e y.steps (f_at m (stage y) v) (g_at m (stage y) v)
            d r.e) (g.none ∙ sym b.d_is)
            (subst (λ (e : ℕ). Trail m h v' (f_at m x w) (g_at m x w) x.d x.e y.steps (f_at m (stage y) v) (g_at m (stage y) v)
            y.d e) (sym b.e_is)
            (trail_kept m h v v' (f_at m x w) (g_at m x w) x.d x.e y.steps (f_at m (stage y) v) (g_at m (stage y) v) y.d y.e
            (λ q p l. b.around.high q (omega arith)) t.trail));
        room = omega (arith, t.room, b.around.same);
        held = subst (λ (d : ℕ). Held m h d r.e r.u r.v v') (sym b.d_is)
            (subst (λ (e : ℕ). Held m h 0 e r.u r.v v') (sym b.e_is) b.held);
        k_below = b.k_below;
        bound = record {
          at = λ k. ap (λ (z : ℕ). z % m.n) (sum (f_at m (stage y) v) (g_at m (stage y) v) (value m r.k) k ∙ first_is k);
        };
      }

  pub rises : {j : ℕ} → y.steps ≡ j → Rises m h j r v'
  rises is = subst (λ (j : ℕ). Rises m h j r v') is (record {
    F₀ = f_at m x w;
    G₀ = g_at m x w;
    d₀ = x.d;
    e₀ = x.e;
    C = constant_at;
    rising = bottomed;
  })
