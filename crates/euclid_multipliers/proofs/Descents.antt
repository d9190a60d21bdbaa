-- A step down in the buffer, with its words in the log.
--
--   piece_kept          what the words of a window stand for, in a buffer that changes elsewhere
--   reaches_kept        where a step leads, in such a buffer
--   descending_none     no step yet
--   bit_told            what the log asks
--   descending_next     one step more
--   descended           the last step
--   descents            the rules
use mathlib.Core.Path.{◌≡◌, refl, sym, ◌∙◌, ap, subst}
use mathlib.Core.List.{List}
use mathlib.Core.Bool.{Bool, true, false}
use Prim.Native.Nat.{ℕ, ◌+◌, ◌-◌, ◌*◌, ◌≤◌, ◌<◌}
use native.Mathlib.Omega.{arith}
use lib.ListN.{length, get_or}
use borrow.Author.Rules.{rules}
use Rattle.definitions.specs.Polynomials.{coef}
use Rattle.definitions.specs.Resultants.{resultant}
use Rattle.windows.specs.Window.{piece, Around}
use Rattle.windows.proofs.Leaf.{piece_same}
use Rattle.windows.proofs.Lift.{below_is}
use Rattle.modulus.specs.declared.Modulus.{Modulus}
use Rattle.modulus.specs.Values.{value, values}
use Rattle.modulus_windows.proofs.Forms.{values_length}
use Rattle.resultant_signs.specs.RunLaws.{Run}
use Rattle.resultant_signs.specs.EliminationLaws.{Within}
use Rattle.resultant_pseudo.specs.StandingRuns.{Placed}
use Rattle.resultant_euclid.proofs.Steps.{standing_values, reaches_self, reaches_trans}
use Rattle.euclid_steps.specs.declared.Stage.{Stage}
use Rattle.euclid_steps.specs.declared.Logged.{Logged}
use Rattle.euclid_steps.specs.Plain.{Sound, known_sound, plain_sound, values_at}
use Rattle.euclid_steps.specs.Steps.{Moves}
use Rattle.euclid_steps.specs.EuclidStages.{Reaches, Stepped, Told, Placing}
use Rattle.euclid_steps.specs.Trails.{bit, LoggedAt}
use Rattle.euclid_multipliers.specs.declared.Descent.{Descent}
use Rattle.euclid_multipliers.specs.StepsInBuffer.{DescentAsked, Descending, Descended, f_at, g_at, TrailTo}
use Rattle.euclid_multipliers.proofs.Trailing.{falls_least, bit_small, trail_kept, trail_next, trail_none}

module _ (m : Modulus) (sound : Sound m) where
  pub piece_kept : (w v : List ℕ) (a l : ℕ) → length v ≡ length w → a + l ≤ length w
      → ((k : ℕ) → k < l → get_or v (a + k) 0 ≡ get_or w (a + k) 0) → piece (values m v) a l ≡ piece (values m w) a l
  piece_kept w v a l same h at =
      piece_same (values m w) (values m v) a l (omega (arith, values_length m w)) (values_length m v ∙ same ∙ sym (values_length m w))
      (λ k p. values_at m sound v (a + k) ∙ ap (value m) (at k p) ∙ sym (values_at m sound w (a + k)))

  -- the words of the pair after a step stay
  module _ (y z : Stage ℕ) (v v₁ v₂ : List ℕ) (same : length v₂ ≡ length v₁) (l : Reaches m y v z v₁)
      (first : (k : ℕ) → k < z.d + 1 → get_or v₂ (z.a + k) 0 ≡ get_or v₁ (z.a + k) 0)
      (second : (k : ℕ) → k < z.e + 1 → get_or v₂ (z.b + k) 0 ≡ get_or v₁ (z.b + k) 0) where
    abbrev pl : Placed m.n z.a z.d z.b z.e v₁
    pl = l.standing.placed

    pub first_kept : piece (values m v₂) z.a (z.d + 1) ≡ piece (values m v₁) z.a (z.d + 1)
    first_kept = piece_kept v₁ v₂ z.a (z.d + 1) same (omega (arith, l.standing.placed.first)) first

    pub second_kept : piece (values m v₂) z.b (z.e + 1) ≡ piece (values m v₁) z.b (z.e + 1)
    second_kept = piece_kept v₁ v₂ z.b (z.e + 1) same (omega (arith, l.standing.placed.second)) second

    placed_kept : Placed m.n z.a z.d z.b z.e v₂
    placed_kept = record {
      pos = pl.pos;
      near = pl.near;
      first = omega (arith, l.standing.placed.first, same);
      second = omega (arith, l.standing.placed.second, same);
      pair = record {
        first = below_is m.n z.a z.a (z.d + 1) v₁ v₂ first pl.pair.first;
        second = below_is m.n z.b z.b (z.e + 1) v₁ v₂ second pl.pair.second;
        apart = pl.pair.apart;
      };
    }

    pub reaches_kept : Reaches m y v z v₂
    reaches_kept = record {
      standing = record {
        placed = placed_kept;
        s_below = l.standing.s_below;
        p_below = l.standing.p_below;
        t_below = l.standing.t_below;
      };
      state_reached = record {
        placed = standing_values m sound z.a z.d z.b z.e v₂ placed_kept;
        same = values_length m v₂ ∙ same ∙ sym (values_length m v₁) ∙ l.state_reached.same;
        run = λ R₀ r.
            subst (λ (f : List ℕ). Run m.n (value m z.s) (value m z.p) (value m z.t) z.d R₀
            (resultant m.n f (piece (values m v₂) z.b (z.e + 1)))) (sym first_kept)
            (subst (λ (g : List ℕ). Run m.n (value m z.s) (value m z.p) (value m z.t) z.d R₀
            (resultant m.n (piece (values m v₁) z.a (z.d + 1)) g)) (sym second_kept) (l.state_reached.run R₀ r));
        within =
            subst (λ (f : List ℕ). Within m.n (piece (values m v) y.a (y.d + 1)) (piece (values m v) y.b (y.e + 1)) f
            (piece (values m v₂) z.b (z.e + 1))) (sym first_kept)
            (subst (λ (g : List ℕ). Within m.n (piece (values m v) y.a (y.d + 1)) (piece (values m v) y.b (y.e + 1))
            (piece (values m v₁) z.a (z.d + 1)) g) (sym second_kept) l.state_reached.within);
      };
    }

  pub descending_none : (h : ℕ) (x : Stage ℕ) (w : List ℕ) → DescentAsked m h x w → Descending m h x w 0 x w
  descending_none h x w k = record {
    same = refl;
    reaching = reaches_self m sound k.standing;
    trail = trail_none m h w (f_at m x w) (g_at m x w) x.d x.e;
    under_a = k.under_a;
    under_b = k.under_b;
    high = k.high;
    room = omega (arith, k.room);
  }

placing_next : (h : ℕ) (x z : Stage ℕ) (b : Bool) → x.a + h ≤ h + h → x.b + h ≤ h + h → Placing x z b
    → (z.a + h ≤ h + h) × (z.b + h ≤ h + h)
placing_next h x z true la lb p = (omega (arith, p.0), omega (arith, p.1))
placing_next h x z false la lb p = (omega (arith, p.0), omega (arith, p.1))

-- the step from y to z, as it is kept
abbrev pub kept : Stage ℕ → Stage ℕ → Logged ℕ
kept y z = record { d = y.d; e = y.e; y = z.y; c = z.c; k = z.k; swap = z.swap }

pub bit_told : {m : Modulus} {y z : Stage ℕ} {v v₁ : List ℕ} → Told m y v z v₁ → bit y.d y.e z.e z.swap ≤ 1
bit_told {m} {y} {z} t = bit_small y.d y.e z.d z.e z.c z.swap t.falls

module _ {m : Modulus} {h j : ℕ} {x y z : Stage ℕ} {w v v₁ v₂ : List ℕ} (sound : Sound m) (g : Descending m h x w j y v) (one : 1 ≤ y.d)
    (s : Stepped m y v z v₁) (t : Told m y v z v₁) (ar : Around (h + h + 5 * j) 5 v₁ v₂)
    (lg : LoggedAt (h + h + 5 * j) z.e (kept y z) v₂) where
  near : y.d ≤ y.e
  near = g.reaching.standing.placed.near

  least : (z.d ≤ y.d) × (z.e ≤ y.e)
  least = falls_least y.d y.e z.d z.e z.c z.swap near t.falls

  places : (z.a + h ≤ h + h) × (z.b + h ≤ h + h)
  places = placing_next h y z z.swap g.under_a g.under_b t.places

  first : (k : ℕ) → k < z.d + 1 → get_or v₂ (z.a + k) 0 ≡ get_or v₁ (z.a + k) 0
  first k l = ar.low (z.a + k) (omega (arith, places.0, least.0, near, g.high))

  second : (k : ℕ) → k < z.e + 1 → get_or v₂ (z.b + k) 0 ≡ get_or v₁ (z.b + k) 0
  second k l = ar.low (z.b + k) (omega (arith, places.1, least.1, g.high))

  first_is : piece (values m v₂) z.a (z.d + 1) ≡ piece (values m v₁) z.a (z.d + 1)
  first_is = first_kept m sound y z v v₁ v₂ ar.same s.0 first second

  second_is : piece (values m v₂) z.b (z.e + 1) ≡ piece (values m v₁) z.b (z.e + 1)
  second_is = second_kept m sound y z v v₁ v₂ ar.same s.0 first second

  moved : Moves m.n (y.e - y.d) (f_at m y v) (g_at m y v)
      (f_at m z v₂) (g_at m z v₂)
      (value m z.y) (m.n - value m z.c) (m.n - value m z.k) z.swap
  moved =
      subst (λ (p : List ℕ). Moves m.n (y.e - y.d) (f_at m y v) (g_at m y v)
      (coef p) (g_at m z v₂) (value m z.y) (m.n - value m z.c) (m.n - value m z.k) z.swap)
      (sym first_is)
      (subst (λ (p : List ℕ). Moves m.n (y.e - y.d) (f_at m y v) (g_at m y v)
      (f_at m z v₁) (coef p) (value m z.y) (m.n - value m z.c) (m.n - value m z.k) z.swap)
      (sym second_is) t.moves)

  trailed : (j' : ℕ) → j' ≡ j + 1 → TrailTo m h x w j' z v₂
  trailed j' is =
      trail_next m h v₂ (f_at m x w) (g_at m x w) x.d x.e j j'
      (f_at m y v) (g_at m y v)
      (f_at m z v₂) (g_at m z v₂) z.d z.e (kept y z)
      (trail_kept m h v v₂ (f_at m x w) (g_at m x w) x.d x.e j
      (f_at m y v) (g_at m y v) y.d y.e
      (λ k p q. ar.low k q ∙ t.around.high k (omega (arith, g.under_b, g.high))) g.trail)
      lg (one, (near, g.high)) (t.y_below, (t.c_below, t.k_below)) t.falls moved is

  pub descending_next : (j' : ℕ) → j' ≡ j + 1 → Descending m h x w j' z v₂
  descending_next j' is = record {
    same = ar.same ∙ t.around.same ∙ g.same;
    reaching = reaches_trans g.reaching (reaches_kept m sound y z v v₁ v₂ ar.same s.0 first second);
    trail = trailed j' is;
    under_a = places.0;
    under_b = places.1;
    high = omega (arith, least.1, g.high);
    room = omega (arith, g.room, ar.same, t.around.same, s.1);
  }

pub descended : {m : Modulus} {h j : ℕ} {x y : Stage ℕ} {w v : List ℕ} {r : Descent} → Descending m h x w j y v → y.d ≡ 0
    → record { a = y.a; d = y.d; b = y.b; e = y.e; s = y.s; p = y.p; t = y.t; steps = j } ≡ r → Descended m h x w r v
descended {m} {h} {j} {x} {y} {w} {v} g z is = subst (λ (r : Descent). Descended m h x w r v) is (record {
  descending = record {
    same = g.same;
    reaching = record {
      standing = record {
        placed = g.reaching.standing.placed;
        s_below = g.reaching.standing.s_below;
        p_below = g.reaching.standing.p_below;
        t_below = g.reaching.standing.t_below;
      };
      state_reached = g.reaching.state_reached;
    };
    trail = g.trail;
    under_a = g.under_a;
    under_b = g.under_b;
    high = g.high;
    room = g.room;
  };
  none = z;
})

pub ruleset descents = (rules, known_sound, plain_sound, descending_none, bit_told, descending_next, descended)
