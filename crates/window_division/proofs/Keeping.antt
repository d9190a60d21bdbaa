-- The division that keeps its quotient words: what a round keeps. Assumes nothing.
use mathlib.Core.Path.{◌≡◌, refl, sym, ap, ap₂, subst, ◌∙◌, fun_ext}
use mathlib.Core.List.{List}
use mathlib.Core.Logic.{⊎_elim}
use Prim.Native.Nat.{ℕ, suc, ◌+◌, ◌-◌, ◌*◌, ◌%◌, ◌≤◌, ◌<◌}
use native.Mathlib.Omega.{arith}
use native.Mathlib.Nat.{mod-lt, eq-or-lt_of_le, add_assoc, add-zero, zero-add}
use native.Mathlib.Decide.{ℕ_discrete}
use lib.ListN.{length, get_or, set, length-set}
use lib.Seq.{get_or-set_same, get_or-set_other}
use Rattle.law_numbers.specs.Congruence.{Cong}
use Rattle.definitions.specs.Polynomials.{coef, convolve}
use Rattle.windows.specs.Window.{piece, Moved, addMul, Below, Apart, Paired}
use Rattle.windows.proofs.Leaf.{lt_or_le, piece_at, piece_over, piece_same}
use Rattle.window_division.specs.Remainders.{Quotient}
use Rattle.window_division.proofs.DivisionRounds.{Dividing, dividing_start, start_quotient, dividing_step, dividing_quotient, spot}
use Rattle.window_division.proofs.DivisionRounds.{spot_off, spot_low, spot_at}
use Rattle.window_division.proofs.Double.{double_step, double_quotient}

-- s quotient words are still to come, and those that have come stand where they were found
pub record Keeping (n a d b e s : ℕ) (w₀ w : List ℕ) : Type 0 where
  pub dividing : Dividing n a d b e s w₀ w
  pub low : (j : ℕ) → j < s → dividing.q j ≡ 0
  pub kept : (j : ℕ) → s ≤ j → d + j < e + 1 → get_or w (b + (d + j)) 0 ≡ dividing.q j

-- a word above the remainder, at x, is replaced by v
module _ (n a d b e s j x v : ℕ) (w₀ w : List ℕ) (place : x ≡ b + (d + j)) (hv : v < n) (above : s ≤ j) (within : d + j < e + 1)
    (fits : b + e < length w) (dv : Dividing n a d b e s w₀ w) where
  same_rest : piece (set w x v) b (d + s) ≡ piece w b (d + s)
  same_rest = piece_same w (set w x v) b (d + s) (omega arith) (length-set w x v) (λ k l. get_or-set_other w x (b + k) v 0 (omega arith))

  small : (k : ℕ) → k < e + 1 → Dec (d + j ≡ k) → get_or (set w x v) (b + k) 0 < n
  small k h (yes p) =
      let here : x ≡ b + k = omega arith in
      subst (λ (y : ℕ). get_or (set w x v) y 0 < n) here (subst (λ (y : ℕ). y < n) (sym (get_or-set_same w x v 0 (omega arith))) hv)
  small k h (no p) = subst (λ (y : ℕ). y < n) (sym (get_or-set_other w x (b + k) v 0 (omega arith))) (dv.below.at k h)

  store : Dividing n a d b e s w₀ (set w x v)
  store = record {
    around = record {
      same = length-set w x v ∙ dv.around.same;
      low = λ k h. get_or-set_other w x k v 0 (omega arith) ∙ dv.around.low k h;
      high = λ k h. get_or-set_other w x k v 0 (omega arith) ∙ dv.around.high k h;
    };
    below = record { at = λ k h. small k h (ℕ_discrete (d + j) k) };
    q = dv.q;
    top = dv.top;
    at = λ k. subst (λ (p : List ℕ). Cong n (convolve dv.q (coef (piece w₀ a (d + 1))) k + coef p k) (coef (piece w₀ b (e + 1)) k))
        (sym same_rest) (dv.at k);
  }

  store_quotient : (k : ℕ) → store.q k ≡ dv.q k
  unfolding store
  store_quotient k = refl

pub keeping_start : (n a d b e s : ℕ) (w : List ℕ) → d + s ≡ e + 1 → Below n b (e + 1) w → Keeping n a d b e s w w
keeping_start n a d b e s w h p = record {
  dividing = dividing_start n a d b e s w h p;
  low = λ j l. start_quotient n a d b e s w h p j;
  kept = λ j l m. absurd (omega arith);
}

-- the words at the two places, and the others
two_at : (x y u v : ℕ) (w : List ℕ) → x < length w → y < x → get_or (set (set w x u) y v) x 0 ≡ u
two_at x y u v w l h = get_or-set_other (set w x u) y x v 0 (omega arith) ∙ get_or-set_same w x u 0 l

module _ (n a d b e s i c t m : ℕ) (w₀ w w' : List ℕ) (pos : 0 < n) (one : 1 ≤ d) (within : d + s + 1 ≤ e)
    (apart : Apart a (d + 1) b (e + 1)) (fits : b + e < length w₀)
    (unit : (i * get_or w₀ (a + d) 0) % n ≡ 1 % n) (ic : c ≡ (i * get_or w (b + (d + s + 1)) 0) % n)
    (it : t ≡ (get_or w (b + (d + s)) 0 + (n - c) * get_or w (a + (d - 1)) 0) % n) (im : m ≡ (i * t) % n)
    (mv : Paired n (n - c) (n - m) a (b + s) d w w') (kp : Keeping n a d b e (s + 2) w₀ w) where
  c_small : c < n
  c_small = subst (λ (x : ℕ). x < n) (sym ic) (mod-lt _ pos)

  m_small : m < n
  m_small = subst (λ (x : ℕ). x < n) (sym im) (mod-lt _ pos)

  long : b + e < length w'
  long = omega (arith, mv.same, kp.dividing.around.same)

  long_next : b + e < length (set w' (b + (d + s + 1)) c)
  long_next = omega (arith, long, length-set w' (b + (d + s + 1)) c)

  paired : Dividing n a d b e s w₀ w'
  paired = double_step n a d b e s i c t m w₀ w w' pos one within apart unit ic it im mv kp.dividing

  first : Dividing n a d b e s w₀ (set w' (b + (d + s + 1)) c)
  first = store n a d b e s (s + 1) (b + (d + s + 1)) c w₀ w' (omega arith) c_small (omega arith) (omega arith) long paired

  second : Dividing n a d b e s w₀ (set (set w' (b + (d + s + 1)) c) (b + (d + s)) m)
  second = store n a d b e s s (b + (d + s)) m w₀ (set w' (b + (d + s + 1)) c) refl m_small (omega arith) (omega arith) long_next first

  quotient_is : (j : ℕ) → second.q j ≡ kp.dividing.q j + (spot (suc s) c j + spot s m j)
  unfolding second first paired
  quotient_is j =
      store_quotient n a d b e s s (b + (d + s)) m w₀ (set w' (b + (d + s + 1)) c) refl m_small (omega arith)
      (omega arith) long_next first j
      ∙ store_quotient n a d b e s (s + 1) (b + (d + s + 1)) c w₀ w' (omega arith) c_small (omega arith) (omega arith) long paired j
      ∙ double_quotient n a d b e s i c t m w₀ w w' pos one within apart unit ic it im mv kp.dividing j

  stands : (j : ℕ) → s ≤ j → d + j < e + 1 → get_or (set (set w' (b + (d + s + 1)) c) (b + (d + s)) m) (b + (d + j)) 0 ≡ kp.dividing.q j +
      (spot (suc s) c j + spot s m j)
  stands j l h =
      ⊎_elim
      (λ p. let here : b + (d + s) ≡ b + (d + j) = omega arith in
      subst (λ (y : ℕ). get_or (set (set w' (b + (d + s + 1)) c) (b + (d + s)) m) y 0 ≡ kp.dividing.q j +
      (spot (suc s) c j + spot s m j)) here
      (get_or-set_same (set w' (b + (d + s + 1)) c) (b + (d + s)) m 0 (omega (arith, long_next))
      ∙ lower (kp.dividing.q j) (spot (suc s) c j) (spot s m j) (kp.low j (omega arith)) (spot_low (suc s) c j (omega arith))
      (spot_at s m j (sym p))))
      (λ p. ⊎_elim
      (λ r. let here : b + (d + s + 1) ≡ b + (d + j) = omega arith in
      subst (λ (y : ℕ). get_or (set (set w' (b + (d + s + 1)) c) (b + (d + s)) m) y 0 ≡ kp.dividing.q j +
      (spot (suc s) c j + spot s m j)) here
      (two_at (b + (d + s + 1)) (b + (d + s)) c m w' (omega (arith, long)) (omega arith)
      ∙ upper (kp.dividing.q j) (spot (suc s) c j) (spot s m j) (kp.low j (omega arith)) (spot_at (suc s) c j (sym r))
      (spot_off s m j p)))
      (λ r. get_or-set_other (set w' (b + (d + s + 1)) c) (b + (d + s)) (b + (d + j)) m 0 (omega arith)
      ∙ get_or-set_other w' (b + (d + s + 1)) (b + (d + j)) c 0 (omega arith) ∙ mv.high (b + (d + j)) (omega arith) ∙ kp.kept j
      (omega arith) h
      ∙ rest (kp.dividing.q j) (spot (suc s) c j) (spot s m j) (spot_off (suc s) c j r) (spot_off s m j (omega arith)))
      (eq-or-lt_of_le p))
      (eq-or-lt_of_le l)
    where
      lower : (q x y : ℕ) → q ≡ 0 → x ≡ 0 → y ≡ m → m ≡ q + (x + y)
      lower q x y hq hx hy = omega arith

      upper : (q x y : ℕ) → q ≡ 0 → x ≡ c → y ≡ 0 → c ≡ q + (x + y)
      upper q x y hq hx hy = omega arith

      rest : (q x y : ℕ) → x ≡ 0 → y ≡ 0 → q ≡ q + (x + y)
      rest q x y hx hy = omega arith

  pub keeping_double : Keeping n a d b e s w₀ (set (set w' (b + (d + s + 1)) c) (b + (d + s)) m)
  keeping_double = record {
    dividing = second;
    low = λ j l. quotient_is j ∙ none (kp.dividing.q j) (spot (suc s) c j) (spot s m j) (kp.low j (omega arith))
        (spot_low (suc s) c j (omega arith)) (spot_low s m j l);
    kept = λ j l h. stands j l h ∙ sym (quotient_is j);
  }
    where
      none : (q x y : ℕ) → q ≡ 0 → x ≡ 0 → y ≡ 0 → q + (x + y) ≡ 0
      none q x y hq hx hy = omega arith

module _ (n a d b e i c : ℕ) (w₀ w w' : List ℕ) (pos : 0 < n) (within : d + 0 ≤ e) (apart : Apart a (d + 1) b (e + 1))
    (fits : b + e < length w₀)
    (unit : (i * get_or w₀ (a + d) 0) % n ≡ 1 % n) (is : c ≡ (i * get_or w (b + (d + 0)) 0) % n)
    (mv : Moved (addMul n (n - c)) a (b + 0) d w w') (kp : Keeping n a d b e (0 + 1) w₀ w) where
  single_small : c < n
  single_small = subst (λ (x : ℕ). x < n) (sym is) (mod-lt _ pos)

  single_long : b + e < length w'
  single_long = omega (arith, mv.same, kp.dividing.around.same)

  moved : Dividing n a d b e 0 w₀ w'
  moved = dividing_step n a d b e 0 i c w₀ w w' pos within apart unit is mv kp.dividing

  last : Dividing n a d b e 0 w₀ (set w' (b + (d + 0)) c)
  last = store n a d b e 0 0 (b + (d + 0)) c w₀ w' refl single_small (omega arith) (omega arith) single_long moved

  single_quotient : (j : ℕ) → last.q j ≡ kp.dividing.q j + spot 0 c j
  unfolding last moved
  single_quotient j =
      store_quotient n a d b e 0 0 (b + (d + 0)) c w₀ w' refl single_small (omega arith) (omega arith) single_long moved j
      ∙ dividing_quotient n a d b e 0 i c w₀ w w' pos within apart unit is mv kp.dividing j

  pub keeping_single : Keeping n a d b e 0 w₀ (set w' (b + (d + 0)) c)
  keeping_single = record {
    dividing = last;
    low = λ j l. absurd (omega arith);
    kept = λ j l h. ⊎_elim
        (λ p. let here : b + (d + 0) ≡ b + (d + j) = omega arith in
        subst (λ (y : ℕ). get_or (set w' (b + (d + 0)) c) y 0 ≡ last.q j) here
        (get_or-set_same w' (b + (d + 0)) c 0 (omega (arith, single_long)) ∙ sym
        (single_quotient j ∙ ap₂ (λ (x y : ℕ). x + y) (kp.low j (omega arith)) (spot_at 0 c j (sym p)) ∙ zero-add c)))
        (λ p. get_or-set_other w' (b + (d + 0)) (b + (d + j)) c 0 (omega arith) ∙ mv.high (b + (d + j)) (omega arith) ∙ kp.kept j
        (omega arith) h
        ∙ sym (single_quotient j ∙ ap (λ (x : ℕ). kp.dividing.q j + x) (spot_off 0 c j p) ∙ add-zero _))
        (eq-or-lt_of_le l);
  }

-- no quotient word is to come
pub keeping_end : (n a d b e s : ℕ) (w₀ w : List ℕ) → s ≡ 0 → d ≤ e + 1 → b + e < length w₀ → Keeping n a d b e s w₀ w
    → Quotient n a d b e w₀ w
keeping_end n a d b e s w₀ w z near fits kp = record {
  around = kp.dividing.around;
  below = kp.dividing.below;
  divided = record {
    at = λ k.
        ap (λ (F : ℕ → ℕ). (convolve F (coef (piece w₀ a (d + 1))) k + coef (piece w b d) k) % n) (fun_ext word)
        ∙ subst (λ (x : ℕ). (convolve kp.dividing.q (coef (piece w₀ a (d + 1))) k + coef (piece w b x) k) % n ≡ coef
        (piece w₀ b (e + 1)) k % n) here (kp.dividing.at k).same;
  };
}
  where
    here : d + s ≡ d
    here = omega arith

    word : (j : ℕ) → coef (piece w (b + d) (e + 1 - d)) j ≡ kp.dividing.q j
    word j = ⊎_elim
        (λ l. piece_at w (b + d) (e + 1 - d) j l ∙ ap (λ (x : ℕ). get_or w x 0) (add_assoc b d j) ∙ kp.kept j (omega arith) (omega arith))
        (λ l. piece_over w (b + d) (e + 1 - d) j l ∙ sym (kp.dividing.top j (omega arith)))
        (lt_or_le j (e + 1 - d))
