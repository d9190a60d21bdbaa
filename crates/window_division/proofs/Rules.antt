-- What each place of the two divisions asks, and what a round keeps, at any width: each rule takes the facts as the code hands them over,
-- so that `search divisions` finds them. s quotient words are still to come before a round, and s - 2 after it.
--
--   Steps, KeptSteps                 the invariants of the two loops
--   pair_asked, last-…               what the places in between ask
--   steps-…, kept-…                  the start, a round, and the ends
--   divisions                        the rules
use mathlib.Core.Path.{◌≡◌, refl, sym, subst}
use mathlib.Core.List.{List}
use Prim.Native.Nat.{ℕ, ◌+◌, ◌-◌, ◌*◌, ◌%◌, ◌≤◌, ◌<◌}
use native.Mathlib.Omega.{arith}
use borrow.Author.Rules.{rules}
use lib.ListN.{get_or, set}
use Rattle.windows.specs.Window.{Moved, addMul, Clear, Below, PairAsked, Paired}
use Rattle.windows.proofs.Leaf.{apart_at}
use Rattle.window_division.specs.Remainders.{DivisionLengthsAsked, Pair, Remainder, Quotient}
use Rattle.window_division.proofs.DivisionRounds.{Dividing, dividing_start, dividing_step, dividing_end}
use Rattle.window_division.proofs.Double.{double_step}
use Rattle.window_division.proofs.Keeping.{Keeping, keeping_start, keeping_double, keeping_single, keeping_end}

pub record Steps (n a d b e : ℕ) (w₀ w : List ℕ) (s : ℕ) : Type 0 where
  pub most : d + s ≤ e + 1
  pub done : Dividing n a d b e s w₀ w

pub record KeptSteps (n a d b e : ℕ) (w₀ w : List ℕ) (s : ℕ) : Type 0 where
  pub steps : Steps n a d b e w₀ w s
  pub kept : Keeping n a d b e s w₀ w

module _ (n a d b e s : ℕ) (w : List ℕ) (sz : DivisionLengthsAsked n a d b e w) (pr : Pair n a d b e w) (is : s ≡ e + 1 - d) where
  pub steps_start : Steps n a d b e w w s
  steps_start = record { most = omega (arith, sz.near); done = dividing_start _ _ _ _ _ _ _ (omega (arith, sz.near)) pr.second }

  pub kept_start : KeptSteps n a d b e w w s
  kept_start = record { steps = steps_start; kept = keeping_start _ _ _ _ _ _ _ (omega (arith, sz.near)) pr.second }

module _ (n a d b e s : ℕ) (w₀ w : List ℕ) (x : Steps n a d b e w₀ w s) (sz : DivisionLengthsAsked n a d b e w₀)
    (pr : Pair n a d b e w₀) where
  asked_at : (t m : ℕ) → d + t ≤ e + 1 → PairAsked n (n - m) a (b + t) d w
  asked_at t m h = record {
    modulus = sz.modulus;
    factor = omega arith;
    source = omega (arith, sz.divisor, x.done.around.same);
    target = omega (arith, sz.dividend, x.done.around.same);
    apart = record { ok = λ i j p q e. pr.apart.ok i (t + j) (omega arith) (omega arith) (omega arith) };
    below = record {
      at = λ k l. let z : b + (t + k) ≡ b + t + k = omega arith in
          subst (λ (y : ℕ). get_or w y 0 < n) z (x.done.below.at (t + k) (omega arith));
    };
  }

  pub pair_asked : (m : ℕ) → 1 < s → PairAsked n (n - m) a (b + (s - 2)) d w
  pair_asked m h = asked_at (s - 2) m (omega (arith, x.most))

  pub last_asked : (m : ℕ) → s ≤ 1 → PairAsked n (n - m) a (b + 0) d w
  last_asked m h = asked_at 0 m (omega (arith, sz.near))

  -- the divisor is as it was
  pub divisor_below : Below n a d w
  divisor_below = record {
    at = λ k l. subst (λ (y : ℕ). y < n) (sym (apart_at pr.apart x.done.around k (omega arith))) (pr.first.at k (omega arith));
  }

  pub last_clear : Clear a (b + 0) d
  last_clear = record { ok = λ i j p q e. pr.apart.ok i j (omega arith) (omega (arith, x.most)) (omega arith) }

  two_more : 1 < s → Dividing n a d b e (s - 2 + 2) w₀ w
  two_more h = let z : s ≡ s - 2 + 2 = omega arith in rw z at x.done

  one_more : s ≤ 1 → (s ≡ 0 → ⊥) → Dividing n a d b e (0 + 1) w₀ w
  one_more h ne = let z : s ≡ 0 + 1 = omega arith in rw z at x.done

  module _ (i c t m : ℕ) (w' : List ℕ) (more : 1 < s) (unit : (i * get_or w₀ (a + d) 0) % n ≡ 1 % n)
      (ic : c ≡ (i * get_or w (b + (d + (s - 2) + 1)) 0) % n)
      (it : t ≡ (get_or w (b + (d + (s - 2))) 0 + (n - c) * get_or w (a + (d - 1)) 0) % n) (im : m ≡ (i * t) % n)
      (mv : Paired n (n - c) (n - m) a (b + (s - 2)) d w w') where
    pub steps_next : (s' : ℕ) → s' ≡ s - 2 → Steps n a d b e w₀ w' s'
    steps_next s' e' = rw e' (record {
      most = omega (arith, x.most);
      done = double_step n a d b e (s - 2) i c t m w₀ w w' sz.modulus sz.degree (omega (arith, x.most)) pr.apart unit ic it im mv
          (two_more more);
    })

    pub kept_next : (s' : ℕ) (w'' : List ℕ) → Keeping n a d b e s w₀ w → w'' ≡ set (set w' (b + (d + (s - 2) + 1)) c) (b + (d + (s - 2))) m
        → s' ≡ s - 2 → KeptSteps n a d b e w₀ w'' s'
    kept_next s' w'' kp ew e' = rw (ew, e') (record {
      steps = record { most = omega (arith, x.most); done = next.dividing };
      kept = next;
    })
      where
        next : Keeping n a d b e (s - 2) w₀ (set (set w' (b + (d + (s - 2) + 1)) c) (b + (d + (s - 2))) m)
        next = keeping_double n a d b e (s - 2) i c t m w₀ w w' sz.modulus sz.degree (omega (arith, x.most)) pr.apart
            sz.dividend unit ic it im mv (let z : s ≡ s - 2 + 2 = omega arith in rw z at kp)

  module _ (i c : ℕ) (w' : List ℕ) (none : s ≤ 1) (ne : s ≡ 0 → ⊥) (unit : (i * get_or w₀ (a + d) 0) % n ≡ 1 % n)
      (ic : c ≡ (i * get_or w (b + (d + 0)) 0) % n) (mv : Moved (addMul n (n - c)) a (b + 0) d w w') where
    pub steps_last : Remainder n a d b e w₀ w'
    steps_last = dividing_end n a d b e 0 w₀ w' refl
        (dividing_step n a d b e 0 i c w₀ w w' sz.modulus (omega (arith, x.most)) pr.apart unit ic mv (one_more none ne))

    pub kept_last : (w'' : List ℕ) → Keeping n a d b e s w₀ w → w'' ≡ set w' (b + (d + 0)) c → Quotient n a d b e w₀ w''
    kept_last w'' kp ew = rw ew (keeping_end n a d b e 0 w₀ _ refl sz.near sz.dividend
        (keeping_single n a d b e i c w₀ w w' sz.modulus (omega (arith, x.most)) pr.apart sz.dividend unit ic mv
        (let z : s ≡ 0 + 1 = omega arith in rw z at kp)))

pub steps_end : (n a d b e s : ℕ) (w₀ w : List ℕ) → Steps n a d b e w₀ w s → s ≡ 0 → Remainder n a d b e w₀ w
steps_end n a d b e s w₀ w x z = dividing_end n a d b e s w₀ w z x.done

pub kept_end : (n a d b e s : ℕ) (w₀ w : List ℕ) → KeptSteps n a d b e w₀ w s → DivisionLengthsAsked n a d b e w₀ → s ≡ 0
    → Quotient n a d b e w₀ w
kept_end n a d b e s w₀ w x sz z = keeping_end n a d b e s w₀ w z sz.near sz.dividend x.kept

pub ruleset steps = (steps_start, pair_asked, last_asked, last_clear, divisor_below, steps_next, steps_last, steps_end)

pub ruleset quotients = (kept_start, kept_next, kept_last, kept_end)

pub ruleset divisions = (rules, steps, quotients)
