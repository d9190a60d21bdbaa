-- The steps of a run without inverses: each is the step of `resultant_pseudo` on what the words stand for.
--
--   exchanged, eliminated, dropped                                  the stage after each step
--   pair_reached, last_reached, elimination_reached, drop_reached   where each step leads, from what the word loop wrote
--   pair_told, last_told, elimination_told, drop_told   what each step did
--   lead_below, other_below, asked, asked-here          what the word loop asks
--   standing_values                                what the words stand for stands in the same places
--   reaches_self, reaches_trans, reaches_same      no step; one after another; the buffer keeps its length
--   one_is, began                                  a run that begins, and where it leads
--   value_is                                       the value at the end
use mathlib.Core.Path.{◌≡◌, refl, sym, ap, ap₂, subst, ◌∙◌}
use mathlib.Core.List.{List}
use mathlib.Core.Logic.{⊎_elim, inl, inr}
use mathlib.Core.Bool.{Bool, true, false}
use Prim.Native.Nat.{ℕ, ◌+◌, ◌-◌, ◌*◌, ◌%◌, ◌^◌, ◌≤◌, ◌<◌}
use native.Mathlib.Omega.{arith}
use native.Mathlib.Nat.{mod-eq_of_lt, mod-lt, zero-add}
use lib.ListN.{length, get_or}
use Rattle.std.specs.Prelude.{Result, Ok}
use borrow.Author.Rules.{rules}
use Rattle.definitions.specs.Resultants.{resultant}
use Rattle.law_numbers.specs.Congruence.{Cong, c_refl, c_eq, c_add, c_mul}
use Rattle.law_polynomials.specs.ResultantLaws.{signed}
use Rattle.windows.specs.Window.{piece, Moved, mulBy, Written, Below, Around, Apart, Scratch}
use Rattle.windows.proofs.Leaf.{lt_or_le, apart_at}
use Rattle.windows.proofs.WindowRounds.{clear_own}
use Rattle.window_combining.specs.Combined.{combination}
use Rattle.modulus.specs.declared.Modulus.{Modulus}
use Rattle.modulus.specs.Values.{value, values, Enters, Subtracts}
use Rattle.modulus_windows.specs.LoopPromises.{Wrote, Scaled}
use Rattle.modulus_windows.proofs.Forms.{values_length}
use Rattle.resultant_signs.specs.RunLaws.{Run}
use Rattle.resultant_signs.specs.Signs.{signed_even, signed_odd}
use Rattle.resultant_pseudo.specs.StandingRuns.{Placed, StateReached, EuclidAttempted, standing}
use Rattle.resultant_pseudo.specs.declared.NotUnit.{NotUnit}
use Rattle.resultant_pseudo.proofs.Stepping.{pair_stepped, last_stepped, elimination_stepped, drop_stepped, next_placed}
use Rattle.resultant_pseudo.proofs.Stepping.{eliminated_placed, state_reached_self, state_reached_trans, run_value, answered, descended}
use Rattle.resultant_pseudo.proofs.Stepping.{first_inside}
use Rattle.euclid_steps.specs.Plain.{Sound, values_at, values_below, known_sound, plain_sound}
use Rattle.euclid_steps.specs.EuclidStages.{Standing, Reaches, Stepped, Finished, Told, meant}
use Rattle.euclid_steps.specs.declared.Stage.{Stage}
use Rattle.resultant_euclid.specs.Running.{Descends, Answering}
use Rattle.resultant_euclid.proofs.Moving.{pair_moves, last_moves, elimination_moves, drop_moves}

-- ---- the stage after a step: the remainder and f; f and what an elimination leaves of g; f without its leading word and g
-- Where a step leads does not depend on what is kept of it: the last four are any.

abbrev pub exchanged : Stage ℕ → ℕ → ℕ → ℕ → ℕ → ℕ → Bool → Stage ℕ
exchanged x s p y c k z =
    record { a = x.b; d = x.d - 1; b = x.a; e = x.d; s = s; p = p; t = x.t; y = y; c = c; k = k; swap = z }

abbrev pub eliminated : Stage ℕ → ℕ → ℕ → ℕ → ℕ → Bool → Stage ℕ
eliminated x p y c k z =
    record { a = x.a; d = x.d; b = x.b; e = x.e - 1; s = x.s; p = p; t = x.t; y = y; c = c; k = k; swap = z }

abbrev pub dropped : Stage ℕ → ℕ → ℕ → ℕ → ℕ → ℕ → Bool → Stage ℕ
dropped x s t y c k z =
    record { a = x.a; d = x.d - 1; b = x.b; e = x.e; s = s; p = x.p; t = t; y = y; c = c; k = k; swap = z }

pub around_more : {b l m : ℕ} {w w' : List ℕ} → l ≤ m → Around b l w w' → Around b m w w'
around_more h ar = record { same = ar.same; low = ar.low; high = λ k g. ar.high k (omega arith) }

-- of multipliers only their residues count
written_cong : {n l c e : ℕ} (l' c' e' src : ℕ) {dst len : ℕ} (v : List ℕ) {w w' : List ℕ} → Cong n l l' → Cong n c c' → Cong n e e'
    → Written (combination n l c e src dst v) dst len w w' → Written (combination n l' c' e' src dst v) dst len w w'
unfolding combination
written_cong l' c' e' src {dst} {len} v {w} {w'} hl hc he wr = record {
  same = wr.same;
  low = wr.low;
  mid = λ i h. wr.mid i h ∙ (c_add (c_add (c_mul hl c_refl) (c_mul hc c_refl)) (c_mul he c_refl)).same;
  high = wr.high;
}

nothing : (s t : ℕ) → s + t ≡ s + t + 0 * 0
nothing s t = omega arith

module _ (m : Modulus) (sound : Sound m) where
  -- what the words stand for stands in the same places
  pub standing_values : (a d b e : ℕ) (w : List ℕ) → Placed m.n a d b e w → Placed m.n a d b e (values m w)
  standing_values a d b e w pl = record {
    pos = pl.pos;
    near = pl.near;
    first = omega (arith, pl.first, values_length m w);
    second = omega (arith, pl.second, values_length m w);
    pair = record {
      first = values_below m sound pl.pair.first;
      second = values_below m sound pl.pair.second;
      apart =
          pl.pair.apart;
    };
  }

  module _ (x : Stage ℕ) (w w' : List ℕ) (st : Standing m x w) (one : 1 ≤ x.d) where
    at : (i : ℕ) → value m (get_or w i 0) ≡ get_or (values m w) i 0
    at i = sym (values_at m sound w i)

    less_at : (i : ℕ) → m.n - get_or (values m w) i 0 ≡ m.n - value m (get_or w i 0)
    less_at i = ap (λ (u : ℕ). m.n - u) (sym (at i))

    less_none : m.n ≡ m.n - value m 0
    less_none = omega (arith, sound.none)

    in_places : Placed m.n x.a x.d x.b x.e (values m w)
    in_places = standing_values x.a x.d x.b x.e w st.placed

    top_none : get_or w (x.a + x.d) 0 ≡ 0 → get_or (values m w) (x.a + x.d) 0 ≡ 0
    top_none h = sym (at (x.a + x.d)) ∙ ap (value m) h ∙ sound.none

    -- the remainder and f
    next : (len : ℕ) → len ≤ x.e + 1 → (k s y c q : ℕ) (z : Bool) → k < m.n → s < m.n → Around x.b len w w'
        → Below m.n x.b x.d w' → Standing m (exchanged x s k y c q z) w'
    next len l k s y c q z lk ls ar be = record {
      placed = next_placed m.n x.a x.d x.b x.e w w' st.placed one (around_more l ar) be;
      s_below = ls;
      p_below = lk;
      t_below = st.t_below;
    }

    module _ (y p q : ℕ) (h : x.e ≡ x.d + 1)
        (hy : (y < m.n) × (value m y ≡ (value m (get_or w (x.a + x.d) 0) * value m (get_or w (x.a + x.d) 0)) % m.n))
        (hp : (p < m.n) × (value m p ≡ (value m (get_or w (x.a + x.d) 0) * value m (get_or w (x.b + (x.d + 1)) 0)) % m.n))
        (hq : (q < m.n) × (value m q ≡ (value m (get_or w (x.a + x.d) 0) * value m (get_or w (x.b + x.d) 0)
        + (m.n - value m (get_or w (x.b + (x.d + 1)) 0)) * value m (get_or w (x.a + (x.d - 1)) 0)) % m.n))
        (wr : Wrote m (combination m.n (value m y) (m.n - value m p) (m.n - value m q) x.a x.b (values m w)) x.b x.d w w')
      where
        square : value m y ≡ (get_or (values m w) (x.a + x.d) 0 * get_or (values m w) (x.a + x.d) 0) % m.n
        square = hy.1 ∙ ap₂ (λ (u v : ℕ). (u * v) % m.n) (at (x.a + x.d)) (at (x.a + x.d))

        upper : value m p ≡ (get_or (values m w) (x.a + x.d) 0 * get_or (values m w) (x.b + (x.d + 1)) 0) % m.n
        upper = hp.1 ∙ ap₂ (λ (u v : ℕ). (u * v) % m.n) (at (x.a + x.d)) (at (x.b + (x.d + 1)))

        lower : value m q ≡ (get_or (values m w) (x.a + x.d) 0 * get_or (values m w) (x.b + x.d) 0
            + (m.n - get_or (values m w) (x.b + (x.d + 1)) 0) * get_or (values m w) (x.a + (x.d - 1)) 0 + 0 * 0) % m.n
        lower =
            hq.1 ∙ ap (λ (u : ℕ). u % m.n) (nothing _ _
            ∙ ap₂ (λ (u v : ℕ). u + v + 0 * 0) (ap₂ (λ (u v : ℕ). u * v) (at (x.a + x.d)) (at (x.b + x.d)))
            (ap₂ (λ (u v : ℕ). (m.n - u) * v) (at (x.b + (x.d + 1))) (at (x.a + (x.d - 1)))))

        pub pair_reached : (k s y' c' k' : ℕ) (o : Bool) → (k < m.n) × (value m k ≡ (value m x.p * value m y) % m.n) → (s < m.n)
            × (value m s ≡ (value m x.s * value m k) % m.n) → Stepped m x w (exchanged x s k y' c' k' o) w'
        pair_reached k s y' c' k' o hk hs =
            let z = pair_stepped m.n x.a x.d x.b x.e (values m w) (values m w') (value m y) (value m p)
            (value m q) in_places one h square upper lower
            wr.stands (value m x.s) (value m x.p) (value m x.t) (value m k) (value m s) hk.1 hs.1 in (
              record {
                standing = next x.d (omega arith) k s y' c' k' o hk.0 hs.0 wr.around wr.below;
                state_reached =
                    z.0;
              },
              z.1,
            )

        pub pair_told : (k s : ℕ) → Told m x w (exchanged x s k y p q true) w'
        pair_told k s = record {
          around = around_more (omega arith) wr.around;
          y_below = hy.0;
          c_below = hp.0;
          k_below = hq.0;
          places = (refl, refl);
          falls = (inl h, (omega arith, refl));
          moves = pair_moves m.n x.a x.d x.b x.e (values m w) (values m w') (value m y) (value m p) (value m q) in_places
              one h square upper lower wr.stands;
        }

    module _ (h : x.e ≡ x.d)
        (wr : Wrote m (combination m.n (value m (get_or w (x.a + x.d) 0)) 0 (m.n - value m (get_or w (x.b + x.d) 0)) x.a x.b
        (values m w)) x.b x.d w w') where
      last_wrote : Written (combination m.n (get_or (values m w) (x.a + x.d) 0) 0 (m.n - get_or (values m w) (x.b + x.d) 0) x.a
          x.b (values m w)) x.b x.d (values m w) (values m w')
      last_wrote =
          written_cong (get_or (values m w) (x.a + x.d) 0) 0 (m.n - get_or (values m w) (x.b + x.d) 0) x.a (values m w)
          (c_eq (at (x.a + x.d))) c_refl (c_eq (ap (λ (u : ℕ). m.n - u) (at (x.b + x.d)))) wr.stands

      pub last_reached : (k s y' c' k' : ℕ) (o : Bool)
          → (k < m.n) × (value m k ≡ (value m x.p * value m (get_or w (x.a + x.d) 0)) % m.n)
          → (s < m.n) × (value m s ≡ (value m x.s * value m k) % m.n)
          → Stepped m x w (exchanged x s k y' c' k' o) w'
      last_reached k s y' c' k' o hk hs =
          let z = last_stepped m.n x.a x.d x.b x.e (values m w) (values m w') in_places one h last_wrote
          (value m x.s) (value m x.p) (value m x.t) (value m k) (value m s)
          (hk.1 ∙ ap (λ (u : ℕ). (value m x.p * u) % m.n) (at (x.a + x.d))) hs.1 in (
            record { standing = next x.d (omega arith) k s y' c' k' o hk.0 hs.0 wr.around wr.below; state_reached = z.0 },
            z.1,
          )

      pub last_told : (k s : ℕ) → Told m x w (exchanged x s k (get_or w (x.a + x.d) 0) 0 (get_or w (x.b + x.d) 0) true) w'
      last_told k s = record {
        around = around_more (omega arith) wr.around;
        y_below = st.placed.pair.first.at x.d (omega arith);
        c_below = sound.pos;
        k_below = st.placed.pair.second.at x.d (omega arith);
        places = (refl, refl);
        falls = (inr (h, refl), (omega arith, refl));
        moves = last_moves m.n x.a x.d x.b x.e (values m w) (values m w') in_places one h last_wrote _ _ _
            (sym (at (x.a + x.d))) less_none (less_at (x.b + x.d));
      }

    pub drop_told : get_or w (x.a + x.d) 0 ≡ 0 → 2 ≤ m.n → (u : ℕ) → (u < m.n) × (value m u ≡ 1 % m.n) → (t s : ℕ)
        → Told m x w (dropped x s t u 0 0 false) w
    drop_told h two u hu t s = record {
      around = record { same = refl; low = λ k l. refl; high = λ k l. refl };
      y_below = hu.0;
      c_below = sound.pos;
      k_below = sound.pos;
      places = (refl, refl);
      falls = (omega (arith, st.placed.near), inr (omega arith, refl));
      moves = drop_moves m.n x.a x.d x.b x.e (values m w) one (top_none h) _ (m.n - value m 0) _
          (sym (hu.1 ∙ mod-eq_of_lt (omega arith))) less_none;
    }

    pub drop_reached : get_or w (x.a + x.d) 0 ≡ 0 → (y : ℕ) → value m y ≡ signed m.n x.e (value m (get_or w (x.b + x.e) 0))
        → (t s y' c' k' : ℕ) (o : Bool)
        → (t < m.n) × (value m t ≡ (value m x.t * value m y) % m.n) → (s < m.n)
        × (value m s ≡ (value m x.s * value m x.p) % m.n)
        → Stepped m x w (dropped x s t y' c' k' o) w
    drop_reached h y hy t s y' c' k' o ht hs =
        let pl = st.placed in
        let z = drop_stepped m.n x.a x.d x.b x.e (values m w) in_places one
        (top_none h) (value m y)
        (hy ∙ ap (signed m.n x.e) (at (x.b + x.e))) (value m x.s) (value m x.p) (value m x.t) (value m t) (value m s)
        ht.1 hs.1 in (
          record {
            standing = record {
              placed = record {
                pos = pl.pos;
                near = omega (arith, pl.near);
                first = omega (arith, pl.first);
                second = pl.second;
                pair = record {
                  first = record { at = λ k l. pl.pair.first.at k (omega arith) };
                  second = pl.pair.second;
                  apart = record { ok = λ i j u v g. pl.pair.apart.ok i j (omega arith) v g };
                };
              };
              s_below = hs.0;
              p_below = st.p_below;
              t_below = ht.0;
            };
            state_reached = z.0;
          },
          z.1,
        )

    -- ---- an elimination before the last, e = d + i

    module _ (i : ℕ) (w₁ : List ℕ) (lt : x.d < x.e) (is : i ≡ x.e - x.d) (sc : Scaled m (get_or w (x.a + x.d) 0) x.b x.b i w w₁)
        (wr : Wrote m (combination m.n (value m (get_or w (x.a + x.d) 0)) 0 (m.n - value m (get_or w (x.b + x.e) 0)) x.a (x.b + i)
        (values m w₁))
        (x.b + i) x.d w₁ w') where
      elimination_around : Around x.b (x.e + 1) w w'
      elimination_around = record {
        same = wr.around.same ∙ sc.around.same;
        low = λ k h. wr.around.low k (omega arith) ∙ sc.around.low k h;
        high = λ k h. wr.around.high k (omega arith) ∙ sc.around.high k (omega arith);
      }

      elimination_below : Below m.n x.b x.e w'
      elimination_below = record {
        at = λ k l. ⊎_elim
            (λ h. subst (λ (y : ℕ). y < m.n) (sym (wr.around.low (x.b + k) (omega arith))) (sc.below.at k h))
            (λ h. let z : x.b + k ≡ x.b + i + (k - i) = omega arith in
            subst (λ (y : ℕ). get_or w' y 0 < m.n) (sym z) (wr.below.at (k - i) (omega arith)))
            (lt_or_le k i);
      }

      elimination_scaled : Moved (mulBy m.n (get_or (values m w) (x.a + x.d) 0)) x.b x.b i (values m w) (values m w₁)
      elimination_scaled = subst (λ (u : ℕ). Moved (mulBy m.n u) x.b x.b i (values m w) (values m w₁)) (at (x.a + x.d))
          sc.stands

      elimination_wrote : Written (combination m.n (get_or (values m w) (x.a + x.d) 0) 0 (m.n - get_or (values m w) (x.b + x.e) 0)
          x.a
          (x.b + i) (values m w₁)) (x.b + i) x.d (values m w₁) (values m w')
      elimination_wrote =
          written_cong (get_or (values m w) (x.a + x.d) 0) 0 (m.n - get_or (values m w) (x.b + x.e) 0) x.a (values m w₁)
          (c_eq (at (x.a + x.d))) c_refl (c_eq (ap (λ (u : ℕ). m.n - u) (at (x.b + x.e)))) wr.stands

      pub elimination_told : (k : ℕ) → Told m x w (eliminated x k (get_or w (x.a + x.d) 0) 0 (get_or w (x.b + x.e) 0) false) w'
      elimination_told k = record {
        around = elimination_around;
        y_below = st.placed.pair.first.at x.d (omega arith);
        c_below = sound.pos;
        k_below = st.placed.pair.second.at x.e (omega arith);
        places = (refl, refl);
        falls = (omega arith, inl (refl, omega arith));
        moves = elimination_moves m.n x.a x.d x.b x.e i (values m w) (values m w₁)
            (values m w') in_places one lt is elimination_scaled
            elimination_wrote _ (m.n - value m 0) _ (sym (at (x.a + x.d))) (less_at (x.b + x.e));
      }

      pub elimination_reached : (k y' c' k' : ℕ) (o : Bool)
          → (k < m.n) × (value m k ≡ (value m x.p * value m (get_or w (x.a + x.d) 0)) % m.n)
          → Stepped m x w (eliminated x k y' c' k' o) w'
      elimination_reached k y' c' k' o hk =
          let z = elimination_stepped m.n x.a x.d x.b x.e i (values m w) (values m w₁)
          (values m w') in_places one lt is elimination_scaled
          elimination_wrote
          (value m x.s) (value m x.p) (value m x.t) (value m k)
          (hk.1 ∙ ap (λ (u : ℕ). (value m x.p * u) % m.n) (at (x.a + x.d))) in (
            record {
              standing = record {
                placed = eliminated_placed m.n x.a x.d x.b x.e w w' st.placed one elimination_around lt elimination_below;
                s_below = st.s_below;
                p_below = hk.0;
                t_below = st.t_below;
              };
              state_reached = z.0;
            },
            z.1,
          )

  -- ---- the whole run

  pub reaches_self : {x : Stage ℕ} {w : List ℕ} → Standing m x w → Reaches m x w x w
  reaches_self {x} {w} st = record {
    standing = st;
    state_reached =
        state_reached_self (standing_values x.a x.d x.b x.e w st.placed);
  }

-- the value at the end of a run, from what the code found
pub value_is : {n : ℕ} (m : Modulus) (y : Stage ℕ) (w : List ℕ) (R₀ i g s l c z u v : ℕ) → Standing m y w → y.d ≡ 0
    → Run m.n (value m y.s) (value m y.p) (value m y.t) y.d R₀ (standing m.n y.a y.d y.b y.e (values m w))
    → R₀ < m.n
    → s ≡ value m y.s → (i * s) % m.n ≡ g % m.n → g ≡ 1 → l ≡ value m (get_or w y.a 0) → c ≡ (l ^ y.e) % m.n
    → value m z ≡ (value m y.p * value m y.t) % m.n → u ≡ (value m z * c) % m.n → v ≡ (i * u) % m.n → Sound m → m.n ≡ n
    → EuclidAttempted n R₀ (Ok v)
value_is m y w R₀ i g s l c z u v st h run small hs hi hg hl hc hz hu hv sound is =
    subst (λ (N : ℕ). EuclidAttempted N R₀ (Ok v)) is
    (run_value m.n m.n y.a y.d y.b y.e (value m y.s) (value m y.p) (value m y.t) R₀ i g c (value m z) u v
    (values m w) refl
    (standing_values m sound y.a y.d y.b y.e w st.placed) h run small
    (subst (λ (q : ℕ). (i * q) % m.n ≡ g % m.n) hs hi) hg
    (hc ∙ ap (λ (q : ℕ). (q ^ y.e) % m.n) (hl ∙ sym (values_at m sound w y.a))) hz hu hv)

pub reaches_trans : {m : Modulus} {x y z : Stage ℕ} {w w' w'' : List ℕ} → Reaches m x w y w' → Reaches m y w' z w'' → Reaches m x w z w''
reaches_trans p q = record { standing = q.standing; state_reached = state_reached_trans p.state_reached q.state_reached }

pub reaches_same : {m : Modulus} {x y : Stage ℕ} {w w' : List ℕ} → Reaches m x w y w' → length w' ≡ length w
reaches_same {m} {w = w} {w' = w'} h = sym (values_length m w') ∙ h.state_reached.same ∙ values_length m w

-- ---- a run that begins

abbrev pub beginning : ℕ → ℕ → ℕ → ℕ → ℕ → Stage ℕ
beginning a d b e u = record { a = a; d = d; b = b; e = e; s = u; p = u; t = u; y = 0; c = 0; k = 0; swap = false }

pub begun : {m : Modulus} {a d b e : ℕ} {w : List ℕ} (u : ℕ) → Placed m.n a d b e w → u < m.n → Standing m (beginning a d b e u) w
begun u pl l = record { placed = pl; s_below = l; p_below = l; t_below = l }

pub began : {m : Modulus} {a d b e : ℕ} {w w' : List ℕ} (u : ℕ) (y : Stage ℕ) → 2 ≤ m.n → value m u ≡ 1 % m.n → Reaches m
    (beginning a d b e u) w y w'
    → StateReached m.n a d b e 1 1 1 (values m w) y.a y.d y.b y.e (value m y.s) (value m y.p) (value m y.t)
    (values m w')
began {m} {a} {d} {b} {e} {w} {w'} u y two h l =
    subst (λ (o : ℕ). StateReached m.n a d b e o o o (values m w) y.a y.d y.b y.e (value m y.s) (value m y.p)
    (value m y.t)
    (values m w'))
    (h ∙ mod-eq_of_lt (omega arith)) l.state_reached

-- ---- what the code asks, from where the pair stands

module _ {n a d b e : ℕ} {w : List ℕ} (pl : Placed n a d b e w) where
  pub lead_below : get_or w (a + d) 0 < n
  lead_below = pl.pair.first.at d (omega arith)

  pub lead_most : get_or w (a + d) 0 ≤ n
  lead_most = omega (arith, lead_below)

  pub lower_below : get_or w (a + (d - 1)) 0 < n
  lower_below = pl.pair.first.at (d - 1) (omega arith)

  pub other_below : get_or w (b + e) 0 < n
  other_below = pl.pair.second.at e (omega arith)

  pub other_above : e ≡ d + 1 → get_or w (b + (d + 1)) 0 < n
  other_above h = pl.pair.second.at (d + 1) (omega arith)

  pub other_here : get_or w (b + d) 0 < n
  other_here = pl.pair.second.at d (omega (arith, pl.near))

  pub first_room : a + d ≤ length w
  first_room = omega (arith, pl.first)

  pub second_room : b + d ≤ length w
  second_room = omega (arith, pl.second, pl.near)

  pub first_words : Below n a d w
  first_words = record { at = λ k l. pl.pair.first.at k (omega arith) }

  pub second_words : Below n b d w
  second_words = record { at = λ k l. pl.pair.second.at k (omega (arith, pl.near)) }

  pub words_apart : Apart a d b d
  words_apart = record { ok = λ i j p q g. pl.pair.apart.ok i j (omega arith) (omega (arith, pl.near)) g }

  pub higher : (e ≡ d → ⊥) → d < e
  higher h = omega (arith, pl.near)

  -- the words from the place i of g on, after those below it were scaled
  module _ {i : ℕ} (is : i ≡ e - d) where
    pub elimination_room : b + i ≤ length w
    elimination_room = omega (arith, pl.second)

    pub elimination_apart : Apart a d (b + i) d
    elimination_apart = record { ok = λ k j p q g. pl.pair.apart.ok k (i + j) (omega arith) (omega (arith, pl.near)) (omega arith) }

module _ {m : Modulus} {c b i : ℕ} {w w₁ : List ℕ} (sc : Scaled m c b b i w w₁) {n a d e : ℕ} (pl : Placed n a d b e w) (is : i ≡ e - d)
  where
    pub elimination_first_room : a + d ≤ length w₁
    elimination_first_room = omega (arith, pl.first, sc.around.same)

    pub elimination_second_room : b + i + d ≤ length w₁
    elimination_second_room = omega (arith, pl.second, pl.near, sc.around.same)

    pub elimination_first : Below n a d w₁
    elimination_first = record {
      at = λ k l. subst (λ (z : ℕ). z < n)
          (sym (apart_at pl.pair.apart (around_more (omega arith) sc.around) k (omega arith))) (pl.pair.first.at k (omega arith));
    }

    pub elimination_second : Below n (b + i) d w₁
    elimination_second = record {
      at = λ k l. let j : b + i + k ≡ b + (i + k) = omega arith in
          subst (λ (z : ℕ). z < n) (sym (sc.around.high (b + i + k) (omega arith)))
          (subst (λ (z : ℕ). get_or w z 0 < n) (sym j) (pl.pair.second.at (i + k) (omega (arith, pl.near))));
    }

-- ---- a sign

pub sign_even : (m : Modulus) (e x : ℕ) → Sound m → x < m.n → e % 2 ≡ 0 → value m x ≡ signed m.n e (value m x)
sign_even m e x sound l h = sym (signed_even m.n e (value m x) (sound.residue l) h)

pub sign_odd : (m : Modulus) (e x r : ℕ) → Sound m → x < m.n → (e % 2 ≡ 0 → ⊥) → Subtracts m 0 x r
    → value m r ≡ signed m.n e (value m x)
sign_odd m e x r sound l h s =
    s.1 ∙ ap (λ (z : ℕ). (z + (m.n - value m x)) % m.n) sound.none ∙ ap (λ (z : ℕ). z % m.n) (zero-add (m.n - value m x))
    ∙ sym (signed_odd m.n e (value m x) (sound.residue l) (odd (e % 2) h (mod-lt e (omega arith))))
  where
    odd : (z : ℕ) → (z ≡ 0 → ⊥) → z < 2 → z ≡ 1
    odd z h l = omega arith

-- ---- the answer

pub attempted : {m : Modulus} {n a d b e u : ℕ} {w w₁ : List ℕ} {x : Stage ℕ} (r : Result ℕ (NotUnit ℕ)) → Placed n a d b e w → Enters m 1 u
    → Reaches m (beginning a d b e u) w x w₁ → Answering m x w₁ r → m.n ≡ n → 2 ≤ n
    → EuclidAttempted n (resultant n (piece (values m w) a (d + 1)) (piece (values m w) b (e + 1))) r
attempted {m} {n} {a} {d} {b} {e} {u} {w} {w₁} {x} r pl en l an is two =
    answered n m.n a d b e (values m w) (meant m x) (values m w₁) r is pl.pos
    (began u x (omega arith) en.1 l) an.at

-- what is known at the end is known before
pub answers_before : {m : Modulus} {x y : Stage ℕ} {w v : List ℕ} {r : Result ℕ (NotUnit ℕ)} → Reaches m x w y v → Answering m y v r
    → Answering m x w r
answers_before l an = record { at = λ R₀ h run. an.at R₀ h (l.state_reached.run R₀ run) }

pub reaches_scratch : {m : Modulus} {x y : Stage ℕ} {w w₁ : List ℕ} → Reaches m x w y w₁ → Scratch w w₁
reaches_scratch l = record { same = reaches_same l }

pub scratch_after : {m : Modulus} {x y : Stage ℕ} {w w₁ w₂ : List ℕ} → Reaches m x w y w₁ → Scratch w₁ w₂ → Scratch w w₂
scratch_after l s = record { same = s.same ∙ reaches_same l }

pub descends : {m : Modulus} {a d b e u : ℕ} {w w₁ : List ℕ} {y : Stage ℕ} → Sound m → 2 ≤ m.n → Placed m.n a d b e w → Enters m 1 u
    → Finished m (beginning a d b e u) w y w₁ → Descends m a d b e w y w₁
descends {m} {a} {d} {b} {e} {u} {w} {w₁} {y} sound two pl en f = record {
  same = reaches_same f.0;
  inside = first_inside f.0.standing.placed;
  stands = descended m.n a d b e (values m w) (meant m y) (values m w₁) (standing_values m sound a d b e w pl)
      (began u y two en.1 f.0) f.1;
}

pub ruleset places = (
  arith,
  lead_below,
  lead_most,
  lower_below,
  other_below,
  other_above,
  other_here,
  first_room,
  second_room,
  first_words,
  second_words,
  words_apart,
  higher,
  elimination_room,
  elimination_apart,
  clear_own,
)

pub ruleset leading = (rules, known_sound, plain_sound, pair_reached, last_reached, elimination_reached, drop_reached)

pub ruleset telling = (rules, known_sound, plain_sound, pair_told, last_told, elimination_told, drop_told)

pub ruleset signs = (rules, known_sound, plain_sound, sign_even, sign_odd)

pub ruleset runs = (
  rules,
  known_sound,
  plain_sound,
  reaches_self,
  reaches_trans,
  reaches_same,
  reaches_scratch,
  scratch_after,
  begun,
  value_is,
  attempted,
  answers_before,
  descends,
  first_inside,
)
