-- What a step does to the two polynomials, over the words of the buffer before and after: the equation that multipliers are made from.
--
--   pair_moves, last_moves, elimination_moves, drop_moves     of each step, from what the word loop wrote
--
-- Letters: n is the modulus; f of degree d stands at a, g of degree e at b; w₁ are the words between the two loops of an elimination.
use mathlib.Core.Path.{◌≡◌, sym, ap, ap₂, subst, ◌∙◌, fun_ext}
use mathlib.Core.List.{List}
use mathlib.Core.Bool.{true, false}
use Prim.Native.Nat.{ℕ, ◌+◌, ◌-◌, ◌*◌, ◌%◌, ◌≤◌, ◌<◌}
use native.Mathlib.Omega.{arith}
use native.Mathlib.Nat.{mod-lt, add-zero, le_of_lt}
use lib.ListN.{get_or}
use Rattle.definitions.specs.Polynomials.{coef}
use Rattle.law_numbers.specs.Congruence.{c_refl, c_sym, c_trans, c_eq, c_add}
use Rattle.windows.specs.Window.{piece, Moved, mulBy, Written, Around, behind}
use Rattle.windows.proofs.Leaf.{piece_at, moved_none}
use Rattle.window_combining.specs.Combined.{combination}
use Rattle.window_division.proofs.DivisionRounds.{spot, risen, convolve_spot}
use Rattle.resultant_signs.specs.EliminationLaws.{dropped_words}
use Rattle.resultant_pseudo.specs.StandingRuns.{Placed}
use Rattle.resultant_pseudo.proofs.Stepping.{gone, kept, pair_eliminated, one_eliminated, elimination_around}
use Rattle.euclid_steps.specs.Steps.{Mixture, Moves, two, convolve_two}
use Rattle.euclid_steps.specs.Eliminations.{pair_mixed, elimination_mixed, last_mixed}

-- equal multipliers
mixture_as : {n l l' : ℕ} {q q' F G H : ℕ → ℕ} → l ≡ l' → q ≡ q' → Mixture n l q F G H → Mixture n l' q' F G H
mixture_as {n} {l} {l'} {q} {q'} {F} {G} {H} hl hq h =
    subst (λ (z : ℕ). Mixture n z q' F G H) hl (subst (λ (z : ℕ → ℕ). Mixture n l z F G H) hq h)

-- n in the place of 0
last_whole : {n l : ℕ} (k : ℕ) {F G H : ℕ → ℕ} → Mixture n l (two k 0) F G H → Mixture n l (two k n) F G H
last_whole {n} {l} k {F} {G} h = record {
  at = λ j. h.at j ∙ (c_add (c_refl {a = l * G j}) (c_trans (c_eq (convolve_two k 0 F j ∙ none (behind F j) (k * F j)))
      (c_trans (c_sym (gone n (k * F j) (behind F j))) (c_eq (elimination n (behind F j) (k * F j) ∙ sym (convolve_two k n F j)))))).same;
}
  where
    none : (x y : ℕ) → 0 * x + y ≡ y
    none x y = omega arith

    elimination : (m x y : ℕ) → y + m * x ≡ m * x + y
    elimination m x y = omega arith

nothing_mixed : (n i : ℕ) (F G : ℕ → ℕ) → Mixture n 1 (spot i n) F G G
nothing_mixed n i F G = record {
  at = λ k. (c_trans (c_sym (gone n (G k) (risen i F k)))
      (c_eq (once (G k) (n * risen i F k) ∙ ap (λ (x : ℕ). 1 * G k + x) (sym (convolve_spot i n F k))))).same;
}
  where
    once : (x y : ℕ) → x + y ≡ 1 * x + y
    once x y = omega arith

-- ---- two eliminations

module _ (n a d b : ℕ) (w w' : List ℕ) (y p q : ℕ) (pl : Placed n a d b (d + 1) w) (one : 1 ≤ d)
    (hy : y ≡ (get_or w (a + d) 0 * get_or w (a + d) 0) % n) (hp : p ≡ (get_or w (a + d) 0 * get_or w (b + (d + 1)) 0) % n)
    (hq : q ≡ (get_or w (a + d) 0 * get_or w (b + d) 0 + (n - get_or w (b + (d + 1)) 0) * get_or w (a + (d - 1)) 0 + 0 * 0) % n)
    (wr : Written (combination n y (n - p) (n - q) a b w) b d w w') where
  at_most : {x : ℕ} (z : ℕ) → x ≡ z % n → x ≤ n
  at_most {x} z h = le_of_lt (subst (λ (u : ℕ). u < n) (sym h) (mod-lt z pl.pos))

  pair_moves_at : (i : ℕ) → Moves n i (coef (piece w a (d + 1))) (coef (piece w b (d + 1 + 1))) (coef (piece w' b (d - 1 + 1)))
      (coef (piece w' a (d + 1))) y (n - p) (n - q) true
  pair_moves_at i = (
    subst (λ (z : ℕ). Mixture n y (two (n - q) (n - p)) (coef (piece w a (d + 1))) (coef (piece w b (d + 1 + 1))) (coef (piece w' b z)))
        more
        (pair_mixed n d y p q (piece w a (d + 1)) (piece w b (d + 1 + 1)) (piece w' b d) one (at_most _ hp) (at_most _ hq)
        (pair_eliminated n a d b w w' y p q pl one hy hp hq wr)),
    ap (λ (z : List ℕ). coef z) (kept n a d b (d + 1) w w' pl one around),
  )
    where
      more : d ≡ d - 1 + 1
      more = omega arith

      around : Around b (d + 1 + 1) w w'
      around = record { same = wr.same; low = wr.low; high = λ k h. wr.high k (omega arith) }

pub pair_moves : (n a d b e : ℕ) (w w' : List ℕ) (y p q : ℕ) → Placed n a d b e w → 1 ≤ d → e ≡ d + 1
    → y ≡ (get_or w (a + d) 0 * get_or w (a + d) 0) % n → p ≡ (get_or w (a + d) 0 * get_or w (b + (d + 1)) 0) % n
    → q ≡ (get_or w (a + d) 0 * get_or w (b + d) 0 + (n - get_or w (b + (d + 1)) 0) * get_or w (a + (d - 1)) 0 + 0 * 0) % n
    → Written (combination n y (n - p) (n - q) a b w) b d w w'
    → Moves n (e - d) (coef (piece w a (d + 1))) (coef (piece w b (e + 1))) (coef (piece w' b (d - 1 + 1))) (coef (piece w' a (d + 1)))
    y (n - p) (n - q) true
pair_moves n a d b e w w' y p q pl one h hy hp hq wr =
    subst (λ (z : ℕ). Moves n (e - d) (coef (piece w a (d + 1))) (coef (piece w b (z + 1))) (coef (piece w' b (d - 1 + 1)))
    (coef (piece w' a (d + 1))) y (n - p) (n - q) true) (sym h)
    (pair_moves_at n a d b w w' y p q (subst (λ (z : ℕ). Placed n a d b z w) h pl) one hy hp hq wr (e - d))

-- ---- one elimination, e = d + i

module _ (n a d b e i : ℕ) (w w₁ w' : List ℕ) (pl : Placed n a d b e w) (one : 1 ≤ d) (is : d + i ≡ e)
    (mv : Moved (mulBy n (get_or w (a + d) 0)) b b i w w₁)
    (wr : Written (combination n (get_or w (a + d) 0) 0 (n - get_or w (b + e) 0) a (b + i) w₁) (b + i) d w₁ w') where
  f_lead : coef (piece w a (d + 1)) d ≡ get_or w (a + d) 0
  f_lead = piece_at w a (d + 1) d (omega arith)

  g_lead : coef (piece w b (e + 1)) (d + i) ≡ get_or w (b + e) 0
  g_lead = ap (coef (piece w b (e + 1))) is ∙ piece_at w b (e + 1) e (omega arith)

  lead_most : get_or w (b + e) 0 ≤ n
  lead_most = le_of_lt (pl.pair.second.at e (omega arith))

  mixed : Mixture n (get_or w (a + d) 0) (spot i (n - get_or w (b + e) 0)) (coef (piece w a (d + 1))) (coef (piece w b (e + 1)))
      (coef (piece w' b e))
  mixed =
      subst (λ (z : ℕ). Mixture n (get_or w (a + d) 0) (spot i (n - z)) (coef (piece w a (d + 1))) (coef (piece w b (e + 1)))
      (coef (piece w' b e))) g_lead
      (subst (λ (z : ℕ). Mixture n z (spot i (n - coef (piece w b (e + 1)) (d + i))) (coef (piece w a (d + 1))) (coef (piece w b (e + 1)))
      (coef (piece w' b e))) f_lead
      (elimination_mixed n d i (piece w a (d + 1)) (piece w b (e + 1)) (piece w' b e)
      (subst (λ (z : ℕ). z ≤ n) (sym g_lead) lead_most) (one_eliminated n a d b e i w w₁ w' pl is mv wr)))

  same_words : coef (piece w' a (d + 1)) ≡ coef (piece w a (d + 1))
  same_words = ap (λ (z : List ℕ). coef z) (kept n a d b e w w' pl one (elimination_around n a d b e i w w₁ w' pl is mv wr))

pub elimination_moves : (n a d b e i : ℕ) (w w₁ w' : List ℕ) → Placed n a d b e w → 1 ≤ d → d < e → i ≡ e - d
    → Moved (mulBy n (get_or w (a + d) 0)) b b i w w₁
    → Written (combination n (get_or w (a + d) 0) 0 (n - get_or w (b + e) 0) a (b + i) w₁) (b + i) d w₁ w'
    → (y c k : ℕ) → get_or w (a + d) 0 ≡ y → n - get_or w (b + e) 0 ≡ k
    → Moves n (e - d) (coef (piece w a (d + 1))) (coef (piece w b (e + 1))) (coef (piece w' a (d + 1))) (coef (piece w' b (e - 1 + 1)))
    y c k false
elimination_moves n a d b e i w w₁ w' pl one lt is mv wr y c k hy hk = (
  same_words n a d b e i w w₁ w' pl one sum mv wr,
  subst (λ (z : ℕ). Mixture n y (spot (e - d) k) (coef (piece w a (d + 1))) (coef (piece w b (e + 1))) (coef (piece w' b z))) more
      (mixture_as hy (ap₂ spot is hk) (mixed n a d b e i w w₁ w' pl one sum mv wr)),
)
  where
    sum : d + i ≡ e
    sum = omega arith

    more : e ≡ e - 1 + 1
    more = omega arith

pub last_moves : (n a d b e : ℕ) (w w' : List ℕ) → Placed n a d b e w → 1 ≤ d → e ≡ d
    → Written (combination n (get_or w (a + d) 0) 0 (n - get_or w (b + d) 0) a b w) b d w w'
    → (y c k : ℕ) → get_or w (a + d) 0 ≡ y → n ≡ c → n - get_or w (b + d) 0 ≡ k
    → Moves n (e - d) (coef (piece w a (d + 1))) (coef (piece w b (e + 1))) (coef (piece w' b (d - 1 + 1))) (coef (piece w' a (d + 1)))
    y c k true
last_moves n a d b e w w' pl one h wr y c k hy hc hk = (
  subst (λ (z : ℕ). Mixture n y (two k c) (coef (piece w a (d + 1))) (coef (piece w b (e + 1))) (coef (piece w' b z))) more
      (mixture_as hy (ap₂ two (ap (λ (z : ℕ). n - get_or w (b + z) 0) h ∙ hk) hc)
      (last_whole _ (last_mixed _ (mixed n a d b e 0 w w w' pl one sum none there)))),
  same_words n a d b e 0 w w w' pl one sum none there,
)
  where
    sum : d + 0 ≡ e
    sum = omega arith

    more : e ≡ d - 1 + 1
    more = omega arith

    none : Moved (mulBy n (get_or w (a + d) 0)) b b 0 w w
    none = moved_none (mulBy n (get_or w (a + d) 0)) b b w

    there : Written (combination n (get_or w (a + d) 0) 0 (n - get_or w (b + e) 0) a (b + 0) w) (b + 0) d w w'
    there = subst (λ (z : ℕ). Written (combination n (get_or w (a + d) 0) 0 (n - get_or w (b + e) 0) a z w) z d w w') (sym (add-zero b))
        (subst (λ (z : ℕ). Written (combination n (get_or w (a + d) 0) 0 (n - get_or w (b + z) 0) a b w) b d w w') (sym h) wr)

-- ---- a zero leading word

pub drop_moves : (n a d b e : ℕ) (w : List ℕ) → 1 ≤ d → get_or w (a + d) 0 ≡ 0 → (y c k : ℕ) → 1 ≡ y → n ≡ k
    → Moves n (e - d) (coef (piece w a (d + 1))) (coef (piece w b (e + 1))) (coef (piece w a (d - 1 + 1))) (coef (piece w b (e + 1)))
    y c k false
drop_moves n a d b e w one z y c k hy hk = (
  fun_ext (λ k. sym (dropped_words w a d one z k)),
  mixture_as hy (ap (spot (e - d)) hk) (nothing_mixed n (e - d) (coef (piece w a (d + 1))) (coef (piece w b (e + 1)))),
)
