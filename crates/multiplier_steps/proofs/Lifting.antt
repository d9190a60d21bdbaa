-- The steps backwards over the words of the buffer and what they stand for.
--
--   exchange-…, exchanging    what the word loop asks over a division's end: two windows of e words, apart, of residues
--   raise-…, raising          what it asks over an elimination before it: two windows of d words
--   exchanged, raised         the step backwards that it makes
--   ended                     the end of the steps
--   exchanging, raising, backs    the rules
--
-- Letters: h is the length of a window; x is a step, with the degrees d and e before it; r are the multipliers after it, k the factor of
-- gamma, beta at u, gamma at v.
use mathlib.Core.Path.{◌≡◌, refl, sym, ap, subst, ◌∙◌}
use mathlib.Core.List.{List}
use mathlib.Core.Bool.{Bool, true, false}
use mathlib.Core.Logic.{⊎_elim, ◌⊎◌, inl, inr}
use Prim.Native.Nat.{ℕ, zero, suc, ◌+◌, ◌-◌, ◌*◌, ◌%◌, ◌≤◌, ◌<◌}
use native.Mathlib.Omega.{arith}
use native.Mathlib.Nat.{mod-mod, mod_self, zero-mod, mod-eq_of_lt, zero-add}
use lib.ListN.{length, get_or, set, length-set}
use lib.Seq.{get_or-set_same, get_or-set_other}
use borrow.Author.Rules.{rules}
use Rattle.definitions.specs.Polynomials.{coef, constant}
use Rattle.law_numbers.specs.Congruence.{Cong, c_refl, c_sym, c_trans, c_eq, c_mul, c_neg, c_cancel}
use Rattle.windows.specs.Window.{piece, Moved, zeroed, Written, Around, Apart, Below}
use Rattle.windows.proofs.Leaf.{lt_or_le, piece_at, piece_over, apart_at}
use Rattle.windows.proofs.Lift.{around_wide}
use Rattle.window_division.proofs.DivisionRounds.{spot}
use Rattle.window_combining.specs.Combined.{combination}
use Rattle.modulus.specs.declared.Modulus.{Modulus}
use Rattle.modulus.specs.Values.{value, values, Enters, Multiplies}
use Rattle.modulus_windows.specs.LoopPromises.{Wrote}
use Rattle.modulus_windows.proofs.Forms.{values_length}
use Rattle.euclid_steps.specs.Plain.{Sound, known_sound, plain_sound, values_at}
use Rattle.euclid_steps.specs.Steps.{Mixture, Added, Falls, Lifts, two}
use Rattle.euclid_steps.specs.EuclidStages.{polynomial}
use Rattle.euclid_steps.specs.Backs.{Held, Ended, LiftAsked, Lifted}
use Rattle.euclid_steps.specs.declared.Logged.{Logged}
use Rattle.euclid_steps.specs.declared.Found.{Found}
use Rattle.multiplier_steps.proofs.Windows.{first_kept, first_nil, first_mixed, second_kept, second_high, second_added}

words_of : {x y : List ℕ} → x ≡ y → coef x ≡ coef y
words_of e = ap (λ (z : List ℕ). coef z) e

-- ---- what the word loop asks

-- with the places and the degrees as equations
module _ {m : Modulus} {h : ℕ} {x : Logged ℕ} {r : Found ℕ} {w : List ℕ} (k : LiftAsked m h x r w) where
  pub exchange_apart : {u v e : ℕ} → r.u ≡ u → r.v ≡ v → x.e ≡ e → Apart u e v e
  exchange_apart hu hv he = rw (← hu, ← hv, ← he) (record { ok = λ i j p q g. k.held.apart.ok i j (omega arith) (omega arith) g })

  pub exchange_first : {n u e : ℕ} → m.n ≡ n → r.u ≡ u → x.e ≡ e → Below n u e w
  exchange_first hn hu he = rw (← hn, ← hu, ← he) (record { at = λ i p. k.held.below_u.at i (omega arith) })

  pub exchange_second : {n v e : ℕ} → m.n ≡ n → r.v ≡ v → x.e ≡ e → Below n v e w
  exchange_second hn hv he = rw (← hn, ← hv, ← he) (record { at = λ i p. k.held.below_v.at i (omega arith) })

  pub raise_apart : {u v d e : ℕ} → r.u ≡ u → r.v ≡ v → x.d ≡ d → x.e ≡ e → Apart v d (u + (e - d)) d
  raise_apart hu hv hd he = rw (← hu, ← hv, ← hd, ← he) (record {
    ok = λ i j p q g. k.held.apart.ok (x.e - x.d + j) i (omega arith) (omega arith) (omega arith);
  })

  pub raise_first : {n v d : ℕ} → m.n ≡ n → r.v ≡ v → x.d ≡ d → Below n v d w
  raise_first hn hv hd = rw (← hn, ← hv, ← hd) (record { at = λ i p. k.held.below_v.at i (omega arith) })

  pub raise_second : {n u d e : ℕ} → m.n ≡ n → r.u ≡ u → x.d ≡ d → x.e ≡ e → Below n (u + (e - d)) d w
  raise_second hn hu hd he = rw (← hn, ← hu, ← hd, ← he) (record {
    at = λ i p. let j : r.u + (x.e - x.d) + i ≡ r.u + (x.e - x.d + i) = omega arith in
        subst (λ (y : ℕ). get_or w y 0 < m.n) (sym j) (k.held.below_u.at (x.e - x.d + i) (omega arith));
  })

-- ---- what a step backwards makes

-- n is 0
whole : (n : ℕ) → Cong n n 0
whole n = record { same = mod_self n ∙ sym (zero-mod n) }

-- n less what 0 stands for
whole_less : (m : Modulus) → Sound m → (c : ℕ) → c ≡ 0 → Cong m.n (m.n - value m c) 0
whole_less m sound c e = c_trans (c_eq (less m.n (value m c) (ap (value m) e ∙ sound.none))) (whole m.n)
  where
    less : (n z : ℕ) → z ≡ 0 → n - z ≡ n
    less n z g = omega arith

-- n less a product is the product with n less a factor
less_times : (n a b c : ℕ) → 1 ≤ n → a ≤ n → c ≡ (a * b) % n → Cong n (n - c) (b * (n - a))
less_times n a b c pos la e = c_cancel (a * b) pos (c_trans left (c_sym (c_trans (c_eq (sums (n - a) (omega arith))) right)))
  where
    swap : (x y : ℕ) → x + y ≡ y + x
    swap x y = omega arith

    left : Cong n (n - c + a * b) 0
    left = c_trans (c_eq (ap (λ (z : ℕ). n - z + a * b) e ∙ swap (n - (a * b) % n) (a * b))) (c_neg n (a * b) pos)

    none : (x : ℕ) → x * 0 ≡ 0
    none x = omega arith

    right : Cong n (b * n) 0
    right = c_trans (c_mul (c_refl {a = b}) (whole n)) (c_eq (none b))

    sums : (a' : ℕ) → a' + a ≡ n → b * a' + a * b ≡ b * n
    sums a' g = omega (arith, ap (λ (z : ℕ). b * z) g)

module _ {m : Modulus} {h : ℕ} {x : Logged ℕ} {r : Found ℕ} {w : List ℕ} (sound : Sound m) (k : LiftAsked m h x r w) where
  size : length (values m w) ≡ length w
  size = values_length m w

  exchanged_here : {w' : List ℕ} → x.swap ≡ true
      → Wrote m (combination m.n (value m r.k) (m.n - value m x.c) (m.n - value m x.k) r.u r.v (values m w))
      r.v x.e w w'
      → Lifted m h x r w (record { u = r.v; v = r.u; k = x.y; d = x.d; e = x.e }) w'
  exchanged_here {w'} t wr = record {
    around = around_wide 0 (h + h) (omega arith) (omega arith) wr.around;
    held = record {
      room = omega (arith, k.held.room, wr.around.same);
      under_u = k.held.under_v;
      under_v = k.held.under_u;
      apart = record { ok = λ i j p q g. k.held.apart.ok j i q p (sym g) };
      below_u = record {
        at = λ j l. ⊎_elim (λ g. wr.below.at j g)
            (λ g. subst (λ (y : ℕ). y < m.n) (sym (wr.around.high (r.v + j) (omega arith))) (k.held.below_v.at j l))
            (lt_or_le j x.e);
      };
      below_v = record {
        at = λ j l. subst (λ (y : ℕ). y < m.n) (sym (apart_at {w = w} {w' = w'} k.held.apart wide j l)) (k.held.below_u.at j l);
      };
      first_ends = λ _ j l. nil j l;
      second_ends = λ j l. ap (λ (y : List ℕ). coef y j) kept ∙ β_nil j l;
    };
    d_is = refl;
    e_is = refl;
    k_below = k.y_below;
    lifts = subst (λ (b : Bool). Lifts m.n (x.e - x.d) (value m x.y) (polynomial m w' r.v h) (polynomial m w' r.u h)
        (value m r.k) (polynomial m w r.u h) (polynomial m w r.v h)
        (value m x.y) (m.n - value m x.c) (m.n - value m x.k) b) (sym t) (mixed, (words_of kept, refl));
  }
    where
      falls : ((x.e ≡ x.d + 1) ⊎ ((x.e ≡ x.d) × (x.c ≡ 0))) × ((r.d + 1 ≡ x.d) × (r.e ≡ x.d))
      falls = subst (λ (b : Bool). Falls x.d x.e r.d r.e x.c b) t k.falls

      near : (x.e ≡ x.d + 1) ⊎ ((x.e ≡ x.d) × (Cong m.n (m.n - value m x.c) 0))
      near = ⊎_elim (λ z. inl z) (λ z. inr (z.0, whole_less m sound x.c z.1)) falls.0

      β_nil : (j : ℕ) → x.d ≤ j → polynomial m w r.u h j ≡ 0
      β_nil j l = k.held.first_ends (omega (arith, k.one, falls.1.1)) j (omega (arith, falls.1.1))

      γ_nil : (j : ℕ) → x.d ≤ j → polynomial m w r.v h j ≡ 0
      γ_nil j l = k.held.second_ends j (omega (arith, falls.1.0))

      inside : r.u + h ≤ length (values m w)
      inside = omega (arith, size, k.held.room, k.held.under_u)

      wide : Around r.v h w w'
      wide = around_wide r.v h (omega arith) (omega arith) wr.around

      kept : piece (values m w') r.u h ≡ piece (values m w) r.u h
      kept = first_kept m.n h x.d x.e (m.n - value m x.c) (m.n - value m x.k) (value m r.k) r.u r.v (values m w)
          (values m w') inside k.held.apart k.high near β_nil γ_nil wr.stands

      nil : (j : ℕ) → x.e ≤ j → polynomial m w' r.v h j ≡ 0
      nil = first_nil m.n h x.d x.e (m.n - value m x.c) (m.n - value m x.k) (value m r.k) r.u r.v (values m w)
          (values m w') inside k.held.apart k.high near β_nil γ_nil wr.stands

      mixed : Mixture m.n (value m r.k) (two (m.n - value m x.k) (m.n - value m x.c)) (polynomial m w r.u h)
          (polynomial m w r.v h) (polynomial m w' r.v h)
      mixed = first_mixed m.n h x.d x.e (m.n - value m x.c) (m.n - value m x.k) (value m r.k) r.u r.v (values m w)
          (values m w') inside k.held.apart k.high near β_nil γ_nil wr.stands

  -- with the places as equations
  pub exchanged : {u v : ℕ} {w' : List ℕ} → u ≡ r.v → v ≡ r.u → x.swap ≡ true
      → Wrote m (combination m.n (value m r.k) (m.n - value m x.c) (m.n - value m x.k) r.u r.v (values m w))
      r.v x.e w w'
      → Lifted m h x r w (record { u = u; v = v; k = x.y; d = x.d; e = x.e }) w'
  exchanged {u} {v} {w'} p q t wr =
      subst (λ (y : ℕ). Lifted m h x r w (record { u = y; v = v; k = x.y; d = x.d; e = x.e }) w') (sym p)
      (subst (λ (y : ℕ). Lifted m h x r w (record { u = r.v; v = y; k = x.y; d = x.d; e = x.e }) w') (sym q) (exchanged_here t wr))

  pub raised : {q y one : ℕ} {w' : List ℕ} → 2 ≤ m.n → x.swap ≡ false → Multiplies m x.k r.k q → Multiplies m x.y r.k y
      → Enters m 1 one
      → Wrote m (combination m.n (value m one) 0 (m.n - value m q) r.v (r.u + (x.e - x.d)) (values m w))
      (r.u + (x.e - x.d)) x.d w w'
      → Lifted m h x r w (record { u = r.u; v = r.v; k = y; d = x.d; e = x.e }) w'
  raised {q} {y} {one} {w'} more t hq hy hone wr = record {
    around = around_wide 0 (h + h) (omega arith) (omega arith) wr.around;
    held = record {
      room = omega (arith, k.held.room, wr.around.same);
      under_u = k.held.under_u;
      under_v = k.held.under_v;
      apart = k.held.apart;
      below_u = record {
        at = λ j l. ⊎_elim (λ g. subst (λ (z : ℕ). z < m.n) (sym (wr.around.low (r.u + j) (omega arith))) (k.held.below_u.at j l))
            (λ g. ⊎_elim
            (λ g'. let i : r.u + j ≡ r.u + (x.e - x.d) + (j - (x.e - x.d)) = omega arith in
            subst (λ (z : ℕ). get_or w' z 0 < m.n) (sym i) (wr.below.at (j - (x.e - x.d)) (omega arith)))
            (λ g'. subst (λ (z : ℕ). z < m.n) (sym (wr.around.high (r.u + j) (omega arith))) (k.held.below_u.at j l))
            (lt_or_le j x.e))
            (lt_or_le j (x.e - x.d));
      };
      below_v = record {
        at = λ j l. subst (λ (z : ℕ). z < m.n) (sym (apart_at {w = w} {w' = w'} flipped wide j l)) (k.held.below_v.at j l);
      };
      first_ends = λ _ j l. above j l ∙ k.held.first_ends falls.0 j (omega (arith, less.1));
      second_ends = λ j l. ap (λ (z : List ℕ). coef z j) kept ∙ γ_nil j l;
    };
    d_is = refl;
    e_is = refl;
    k_below = hy.0;
    lifts = subst (λ (b : Bool). Lifts m.n (x.e - x.d) (value m y) (polynomial m w' r.u h) (polynomial m w' r.v h)
        (value m r.k) (polynomial m w r.u h) (polynomial m w r.v h)
        (value m x.y) (m.n - value m x.c) (m.n - value m x.k) b) (sym t)
        (added, (words_of kept, ap (λ (z : ℕ). z % m.n) hy.1 ∙ mod-mod _ m.n));
  }
    where
      falls : (1 ≤ r.e) × (((r.d ≡ x.d) × (r.e + 1 ≡ x.e)) ⊎ ((r.d + 1 ≡ x.d) × (r.e ≡ x.e)))
      falls = subst (λ (b : Bool). Falls x.d x.e r.d r.e x.c b) t k.falls

      less : (r.d ≤ x.d) × (r.e ≤ x.e)
      less = ⊎_elim (λ z. (omega (arith, z.0), omega (arith, z.1))) (λ z. (omega (arith, z.0), omega (arith, z.1))) falls.1

      γ_nil : (j : ℕ) → x.d ≤ j → polynomial m w r.v h j ≡ 0
      γ_nil j l = k.held.second_ends j (omega (arith, less.0))

      inside : r.v + h ≤ length (values m w)
      inside = omega (arith, size, k.held.room, k.held.under_v)

      flipped : Apart r.v h r.u h
      flipped = record { ok = λ i j p q g. k.held.apart.ok j i q p (sym g) }

      wide : Around r.u h w w'
      wide = around_wide r.u h (omega arith) (omega arith) wr.around

      unit : value m one ≡ 1
      unit = hone.1 ∙ mod-eq_of_lt (omega arith)

      written : Written (combination m.n 1 0 (m.n - value m q) r.v (r.u + (x.e - x.d)) (values m w)) (r.u + (x.e - x.d)) x.d
          (values m w) (values m w')
      written = subst (λ (l : ℕ). Written (combination m.n l 0 (m.n - value m q) r.v (r.u + (x.e - x.d)) (values m w))
          (r.u + (x.e - x.d)) x.d (values m w) (values m w')) unit wr.stands

      factor : Cong m.n (m.n - value m q) (value m r.k * (m.n - value m x.k))
      factor = less_times m.n (value m x.k) (value m r.k) (value m q) sound.pos
          (omega (arith, sound.residue k.q_below)) hq.1

      kept : piece (values m w') r.v h ≡ piece (values m w) r.v h
      kept = second_kept m.n h x.d x.e (m.n - value m q) (value m r.k) (m.n - value m x.k) r.u r.v (values m w)
          (values m w') inside k.held.apart k.near k.high γ_nil factor written

      above : (j : ℕ) → x.e ≤ j → polynomial m w' r.u h j ≡ polynomial m w r.u h j
      above = second_high m.n h x.d x.e (m.n - value m q) (value m r.k) (m.n - value m x.k) r.u r.v (values m w)
          (values m w') inside k.held.apart k.near k.high γ_nil factor written

      added : Added m.n (value m r.k) (spot (x.e - x.d) (m.n - value m x.k)) (polynomial m w r.v h) (polynomial m w r.u h)
          (polynomial m w' r.u h)
      added = second_added m.n h x.d x.e (m.n - value m q) (value m r.k) (m.n - value m x.k) r.u r.v (values m w)
          (values m w') inside k.held.apart k.near k.high γ_nil factor written

-- ---- the end of the steps

constant_out : (c j : ℕ) → 1 ≤ j → constant c j ≡ 0
constant_out c zero l = absurd (omega arith)
constant_out c (suc j) l = refl

module _ {m : Modulus} {h e one : ℕ} {w w₁ : List ℕ} (sound : Sound m) (pos : 2 ≤ m.n) (high : e < h) (room : h + h ≤ length w)
    (mv : Moved zeroed 0 0 (h + h) w w₁) (en : Enters m 1 one) where
  abbrev w' : List ℕ
  w' = set w₁ 0 one

  same : length w' ≡ length w
  same = length-set w₁ 0 one ∙ mv.same

  first_one : get_or w' 0 0 ≡ one
  first_one = get_or-set_same w₁ 0 one 0 (omega (arith, mv.same))

  zero_at : (j : ℕ) → 1 ≤ j → j < h + h → get_or w' j 0 ≡ 0
  zero_at j p q = get_or-set_other w₁ 0 j one 0 (λ g. omega arith) ∙ ap (λ (i : ℕ). get_or w₁ i 0) (sym (zero-add j)) ∙ mv.mid j q

  nil_at : (j : ℕ) → 1 ≤ j → j < h + h → get_or (values m w') j 0 ≡ 0
  nil_at j p q = values_at m sound w' j ∙ ap (value m) (zero_at j p q) ∙ sound.none

  β : (j : ℕ) → polynomial m w' 0 h j ≡ constant 1 j
  β zero = piece_at (values m w') 0 h 0 (omega arith) ∙ values_at m sound w' 0 ∙ ap (value m) first_one ∙ en.1 ∙ mod-eq_of_lt (omega arith)
  β (suc j) = ⊎_elim (λ l. piece_at (values m w') 0 h (suc j) l ∙ nil_at (0 + suc j) (omega arith) (omega arith))
      (λ l. piece_over (values m w') 0 h (suc j) l) (lt_or_le (suc j) h)

  γ : (j : ℕ) → polynomial m w' h h j ≡ 0
  γ j = ⊎_elim (λ l. piece_at (values m w') h h j l ∙ nil_at (h + j) (omega arith) (omega arith))
      (λ l. piece_over (values m w') h h j l) (lt_or_le j h)

  residue : (j : ℕ) → j < h + h → get_or w' j 0 < m.n
  residue zero l = subst (λ (z : ℕ). z < m.n) (sym first_one) en.0
  residue (suc j) l = subst (λ (z : ℕ). z < m.n) (sym (zero_at (suc j) (omega arith) l)) (omega arith)

  pub ended : Ended m h e w (record { u = 0; v = h; k = 0; d = 0; e = e }) (set w₁ 0 one)
  ended = record {
    around = record {
      same = same;
      low = λ j l. absurd (omega arith);
      high = λ j l. get_or-set_other w₁ 0 j one 0 (λ g. omega arith) ∙ mv.high j l;
    };
    held = record {
      room = omega (arith, same);
      under_u = omega arith;
      under_v = omega arith;
      apart = record { ok = λ i j p q g. omega arith };
      below_u = record { at = λ j l. residue (0 + j) (omega arith) };
      below_v = record { at = λ j l. residue (h + j) (omega arith) };
      first_ends = λ some j l. β j ∙ constant_out 1 j (omega arith);
      second_ends = λ j l. γ j;
    };
    d_is = refl;
    e_is = refl;
    k_below = omega arith;
    one = β;
  }

pub ruleset exchanging = (arith, exchange_apart, exchange_first, exchange_second)

pub ruleset raising = (arith, raise_apart, raise_first, raise_second)

pub ruleset backs = (rules, known_sound, plain_sound, ended, exchanged, raised)
