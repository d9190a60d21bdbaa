-- The rounds of `unit_times_monic`, at any width, on the words of its buffer: f at 0, H at d + 1, the room at d + 1 + (t + 1).
--
--   round_sizes, round_pair, round_lead    what `divide_copy` asks of the division
--   round, round_one, round_left           what comes of it
--   RoundHolds, Nearing                    what the loop keeps of the buffer
--   enter, again, leave                    the loop's first round, a round, and its end; again-… what a round asks of `add_scaled`
--   rounds, loop_rounds, addings           the rules of `divide_copy`, of the loop and of `add_scaled` in it
use mathlib.Core.Path.{◌≡◌, sym, ap, ap₂, subst, fun_ext, ◌∙◌}
use mathlib.Core.List.{List}
use mathlib.Core.Logic.{◌⊎◌, inl, inr, ⊎_elim}
use Prim.Native.Nat.{ℕ, zero, suc, ◌+◌, ◌-◌, ◌*◌, ◌%◌, ◌≤◌, ◌<◌}
use native.Mathlib.Omega.{arith}
use native.Mathlib.Nat.{mod-lt, mod-eq_of_lt, add-zero, one-mul, mul-zero, le_of_dvd, eq-or-lt_of_le}
use borrow.Author.Rules.{rules}
use lib.ListN.{length, get_or, drop, length-drop}
use lib.Seq.{length-take-le}
use borrow.Rule.Slice.PartMut.{mid_of}
use Rattle.law_numbers.specs.Congruence.{Cong, c_trans, c_eq, c_mod}
use Rattle.law_numbers.specs.Nilpotents.{InRadical, nilpotent_radical, radical_nilpotent}
use Rattle.definitions.specs.Polynomials.{coef, convolve, constant, Multiplied, UnitPolynomial}
use Rattle.convolution.specs.Sums.{convolve_comm, convolve_constant}
use Rattle.windows.specs.Window.{piece, Moved, addMul, mulBy, second, Below, PairAsked, Around, Zeros}
use Rattle.windows.proofs.Leaf.{lt_or_le, piece_at, piece_over}
use Rattle.windows.proofs.Lift.{piece_low, piece_equal, around_none, around_trans, around_wide, moved_around, moved_copy, below_is}
use Rattle.windows.proofs.Parts.{mid_at}
use Rattle.window_division.specs.Remainders.{DivisionLengthsAsked, Pair, Quotient}
use Rattle.window_factor.specs.Factors.{Given, RoundAsked, Round, RoundLeft, Factored}
use Rattle.window_factor.proofs.Uniqueness.{MonicAt, DividedBy}
use Rattle.window_factor.proofs.Approaches.{Near, near_start, near_next, done, quotient_nilpotent, quotient_unit}

-- ---- a round: f copied, and divided by H

module _ (n d t : ℕ) (w w2 : List ℕ) (g : RoundAsked n d t w) (mv : Moved second 0 (d + 1 + (t + 1)) (d + 1) w w2) where
  same_h : piece w2 (d + 1) (t + 1) ≡ piece w (d + 1) (t + 1)
  same_h = piece_low (moved_around mv) (d + 1) (t + 1) (omega arith) (omega arith)

  copied : piece w2 (d + 1 + (t + 1)) (d + 1) ≡ piece w 0 (d + 1)
  copied = moved_copy (omega arith) (omega arith) mv

  -- what the division asks
  pub round_sizes : (t ≡ 0 → ⊥) → DivisionLengthsAsked n (d + 1) t (d + 1 + (t + 1)) d w2
  round_sizes ne = record {
    modulus = g.positive;
    degree = omega (arith, ne);
    near = omega (arith, g.within);
    divisor = omega (arith, g.fits, mv.same);
    dividend = omega (arith, g.fits, mv.same);
  }

  pub round_pair : Pair n (d + 1) t (d + 1 + (t + 1)) d w2
  round_pair = record {
    first = below_is n (d + 1) (d + 1) (t + 1) w w2 (λ k l. mv.low (d + 1 + k) (omega arith)) g.below_h;
    second = below_is n 0 (d + 1 + (t + 1)) (d + 1) w w2 (λ k l. mv.mid k l) g.below_f;
    apart = record { ok = λ i j p q e. omega arith };
  }

  pub round_lead : (1 * get_or w2 (d + 1 + t) 0) % n ≡ 1 % n
  round_lead = ap (λ (x : ℕ). x % n) (one-mul (get_or w2 (d + 1 + t) 0) ∙ mv.low (d + 1 + t) (omega arith) ∙ g.monic)

  pub round : (w3 : List ℕ) → Quotient n (d + 1) t (d + 1 + (t + 1)) d w2 w3 → Round n d t w w3
  round w3 dv = record {
    around = around_trans (moved_around mv) dv.around;
    below = dv.below;
    equation = record {
      at = λ k.
          ap (λ (h : List ℕ). (convolve (coef (piece w3 (d + 1 + (t + 1) + t) (d + 1 - t)))
          (coef h) k + coef (piece w3 (d + 1 + (t + 1)) t) k) % n) (sym same_h)
          ∙ dv.divided.at k ∙ ap (λ (f : List ℕ). coef f k % n) copied;
    };
  }

  -- H = 1: the copy is the quotient
  pub round_one : t ≡ 0 → Round n d t w w2
  round_one z = record {
    around = moved_around mv;
    below = below_is n 0 (d + 1 + (t + 1)) (d + 1) w w2 (λ k l. mv.mid k l) g.below_f;
    equation = record {
      at = λ k.
          ap (λ (x : ℕ). x % n) (ap₂ ◌+◌ (convolve_comm (coef (piece w2 (d + 1 + (t + 1) + t) (d + 1 - t)))
          (coef (piece w (d + 1) (t + 1))) k
          ∙ ap (λ (h : ℕ → ℕ). convolve h (coef (piece w2 (d + 1 + (t + 1) + t) (d + 1 - t))) k) (fun_ext one)
          ∙ convolve_constant 1 (coef (piece w2 (d + 1 + (t + 1) + t) (d + 1 - t))) k ∙ one-mul _)
          (piece_over w2 (d + 1 + (t + 1)) t k (omega arith))
          ∙ add-zero _ ∙ ap (λ (f : List ℕ). coef f k) whole);
    };
  }
    where
      one : (j : ℕ) → coef (piece w (d + 1) (t + 1)) j ≡ constant 1 j
      one zero = piece_at w (d + 1) (t + 1) 0 (omega arith) ∙ ap (λ (x : ℕ). get_or w (d + 1 + x) 0) (sym z) ∙ g.monic
      one (suc j) = piece_over w (d + 1) (t + 1) (suc j) (omega arith)

      whole : piece w2 (d + 1 + (t + 1) + t) (d + 1 - t) ≡ piece w 0 (d + 1)
      whole = ap₂ (piece w2) (let e : d + 1 + (t + 1) + t ≡ d + 1 + (t + 1) = omega arith in e)
          (let e : d + 1 - t ≡ d + 1 = omega arith in e) ∙ copied

-- ---- what the loop keeps of the buffer: f is F, H is monic and near

pub record RoundHolds (n d t k i : ℕ) (F w : List ℕ) : Type 0 where
  pub poly : piece w 0 (d + 1) ≡ F
  pub small : Below n 0 (d + 1) w
  pub lead : get_or w (d + 1 + t) 0 ≡ 1
  pub below : Below n (d + 1) (t + 1) w
  pub near : Near n d t k i (coef F) (coef (piece w (d + 1) (t + 1)))

round_below : {n d t k i : ℕ} {F w : List ℕ} → 0 < n → RoundHolds n d t k i F w → k < n
round_below pos x = let a = x.near.more in let b = le_of_dvd pos x.near.divides in omega arith

monic_piece : (n a t : ℕ) (w : List ℕ) → get_or w (a + t) 0 ≡ 1 → MonicAt n t (coef (piece w a (t + 1)))
monic_piece n a t w e = record {
  lead = c_eq (piece_at w a (t + 1) t (omega arith) ∙ e);
  over = λ j l. piece_over w a (t + 1) j
      (omega arith);
}

round_start : (n d t i : ℕ) (w w' : List ℕ) → 2 ≤ n → t ≤ d → d + 1 + (t + 1 + (d + 1)) ≤ length w → Given n d t i w
    → Moved (mulBy n i) 0 (d + 1) (t + 1) w w'
    → RoundHolds n d t 0 i (piece w 0 (d + 1)) w'
round_start n d t i w w' two td fits g mv =
    let low : (k : ℕ) → k < d + 1 → get_or w' (0 + k) 0 ≡ get_or w (0 + k) 0 = λ k l. mv.low (0 + k) (omega arith) in
    let word : (j : ℕ) → j < t + 1 → get_or w' (d + 1 + j) 0 ≡ (i * coef (piece w 0 (d + 1)) j) % n =
    λ j l. mv.mid j l ∙ ap (λ (x : ℕ). (i * x) % n) (sym (piece_at w 0 (d + 1) j (omega arith))) in
    let lead : get_or w' (d + 1 + t) 0 ≡ 1 = word t (omega arith) ∙ g.unit ∙ mod-eq_of_lt (omega arith) in
    record {
      poly = piece_low (moved_around mv) 0 (d + 1) (omega arith) (omega arith);
      small = below_is n 0 0 (d + 1) w w' low g.below;
      lead = lead;
      below = record { at = λ k l. subst (λ (x : ℕ). x < n) (sym (word k l)) (mod-lt _ (omega arith)) };
      near = near_start n d t i (coef (piece w 0 (d + 1))) (coef (piece w' (d + 1) (t + 1))) (monic_piece n (d + 1) t w' lead)
          (λ j l. c_trans (c_eq (piece_at w' (d + 1) (t + 1) j (omega arith) ∙ word j (omega arith))) (c_mod _));
    }

-- ---- after a round

module _ (n d t k i : ℕ) (F w w' : List ℕ) (two : 2 ≤ n) (td : t ≤ d) (fits : d + 1 + (t + 1 + (d + 1)) ≤ length w)
    (unit : (i * coef F t) % n ≡ 1 % n)
    (radical : (j : ℕ) → t < j → InRadical n (coef F j)) (x : RoundHolds n d t k i F w) (r : Round n d t w w') where
  H : List ℕ
  H = piece w (d + 1) (t + 1)

  Q : List ℕ
  Q = piece w' (d + 1 + (t + 1) + t) (d + 1 - t)

  R : List ℕ
  R = piece w' (d + 1 + (t + 1)) t

  kept_h : piece w' (d + 1) (t + 1) ≡ H
  unfolding H
  kept_h = piece_low r.around (d + 1) (t + 1) (omega arith) (omega arith)

  one : Cong n (i * coef F t) 1
  one = record { same = unit }

  div : DividedBy n (coef F) (coef H) (coef Q) (coef R)
  unfolding H Q R
  div = record { at = λ j. record { same = r.equation.at j ∙ ap (λ (f : List ℕ). coef f j % n) x.poly } }

  short : (j : ℕ) → t ≤ j → coef R j ≡ 0
  unfolding R
  short j l = piece_over w' (d + 1 + (t + 1)) t j l

  top : (j : ℕ) → d < j → coef Q j ≡ 0
  unfolding Q
  top j l = piece_over w' (d + 1 + (t + 1) + t) (d + 1 - t) j (omega arith)

  near : Near n d t k i (coef F) (coef H)
  unfolding H
  near = x.near

  -- the remainder is 0
  product : ((j : ℕ) → j < t → get_or w' (d + 1 + (t + 1) + j) 0 ≡ 0) → Multiplied n F Q (piece w' (d + 1) (t + 1))
  unfolding H R
  product zeros =
      let none : (j : ℕ) → coef R j ≡ 0 =
      λ j. ⊎_elim (λ l. piece_at w' (d + 1 + (t + 1)) t j l ∙ zeros j l) (λ l. short j l) (lt_or_le j t) in
      subst (λ (h : List ℕ). Multiplied n F Q h) (sym kept_h)
      (record {
        at = λ j. sym (ap (λ (y : ℕ). y % n) (sym (add-zero (convolve (coef Q) (coef H) j))
            ∙ ap (λ (y : ℕ). convolve (coef Q) (coef H) j + y) (sym (none j))) ∙ (div.at j).same);
      })

  unit_quotient : UnitPolynomial n Q
  unit_quotient = record {
    unit = quotient_unit (omega arith) one near div short top radical;
    nilpotent = elim [
      | zero ↦ λ l. absurd (omega arith)
      | suc j ↦ λ l. radical_nilpotent (omega arith)
          (quotient_nilpotent (omega arith) one near div short top radical j)
    ];
  }

  round_end : (w₀ : List ℕ) → piece w₀ 0 (d + 1) ≡ F → Around (d + 1) (t + 1 + (d + 1)) w₀ w'
      → ((j : ℕ) → j < t → get_or w' (d + 1 + (t + 1) + j) 0 ≡ 0) → Factored n d t w₀ w'
  unfolding H Q
  round_end w₀ e around zeros = record {
    around = around;
    equation = subst (λ (f : List ℕ). Multiplied n f Q (piece w' (d + 1) (t + 1))) (sym e) (product zeros);
    monic = ap (λ (h : List ℕ). coef h t) kept_h ∙ piece_at w (d + 1) (t + 1) t (omega arith) ∙ x.lead;
    unit = unit_quotient;
    below_h = below_is n (d + 1) (d + 1) (t + 1) w w' (λ j l. r.around.low (d + 1 + j) (omega arith)) x.below;
    below_u = record {
      at = λ j l. let z : d + 1 + (t + 1) + (t + j) ≡ d + 1 + (t + 1) + t + j = omega arith in
          subst (λ (y : ℕ). y < n) (ap (λ (y : ℕ). get_or w' y 0) z) (r.below.at (t + j) (omega arith));
    };
  }

  round_next : (z : ℕ) (w4 : List ℕ) → z < t → (get_or w' (d + 1 + (t + 1) + z) 0 ≡ 0 → ⊥)
      → Moved (addMul n i) (d + 1 + (t + 1)) (d + 1) t w' w4 → RoundHolds n d t (k + 1) i F w4
  unfolding H R
  round_next z w4 zt nz mv =
      let lead : get_or w4 (d + 1 + t) 0 ≡ 1 = mv.high (d + 1 + t) (omega arith) ∙ r.around.low (d + 1 + t) (omega arith) ∙ x.lead in
      let low : (j : ℕ) → j < d + 1 → get_or w4 (0 + j) 0 ≡ get_or w (0 + j) 0 = λ j l. mv.low (0 + j) (omega arith)
      ∙ r.around.low (0 + j) (omega arith) in
      record {
        poly = piece_equal w w4 0 0 (d + 1) (omega arith) (omega (arith, mv.same, r.around.same)) low ∙ x.poly;
        small = below_is n 0 0 (d + 1) w w4 low x.small;
        lead = lead;
        below = record {
          at = λ j l. ⊎_elim
              (λ b. subst (λ (y : ℕ). y < n) (sym (mv.mid j b)) (mod-lt _ (omega arith)))
              (λ b. let e : d + 1 + j ≡ d + 1 + t = omega arith in subst (λ (y : ℕ). y < n) (sym (ap (λ (y : ℕ). get_or w4 y 0) e ∙ lead))
              (omega arith))
              (lt_or_le j t);
        };
        near = near_next (omega arith) one near div short top (monic_piece n (d + 1) t w4 lead) (λ j. update j lead (lt_or_le j t)) radical
            (λ e. nz (sym (piece_at w' (d + 1 + (t + 1)) t z zt)
            ∙ done (omega arith) one near div short top e z
            (subst (λ (y : ℕ). y < n) (sym (piece_at w' (d + 1 + (t + 1)) t z zt)) (r.below.at z (omega arith)))));
      }
    where
      kept : (j : ℕ) → get_or w4 (d + 1 + t) 0 ≡ 1 → t ≤ j → coef (piece w4 (d + 1) (t + 1)) j ≡ coef H j
      kept j lead l = ⊎_elim
          (λ e. ap (coef (piece w4 (d + 1) (t + 1))) (sym e) ∙ piece_at w4 (d + 1) (t + 1) t (omega arith) ∙ lead
          ∙ sym (piece_at w (d + 1) (t + 1) t (omega arith) ∙ x.lead) ∙ ap (coef (piece w (d + 1) (t + 1))) e)
          (λ b. piece_over w4 (d + 1) (t + 1) j (omega arith) ∙ sym (piece_over w (d + 1) (t + 1) j (omega arith)))
          (eq-or-lt_of_le l)

      update : (j : ℕ) → get_or w4 (d + 1 + t) 0 ≡ 1 → (j < t) ⊎ (t ≤ j)
          → Cong n (coef (piece w4 (d + 1) (t + 1)) j) (coef H j + i * coef R j)
      update j lead (inl l) =
          c_trans (c_eq (piece_at w4 (d + 1) (t + 1) j (omega arith) ∙ mv.mid j l))
          (c_trans (c_mod _)
          (c_eq (ap₂ (λ (a b : ℕ). a + i * b)
          (r.around.low (d + 1 + j) (omega arith) ∙ sym (piece_at w (d + 1) (t + 1) j (omega arith)))
          (sym (piece_at w' (d + 1 + (t + 1)) t j l)))))
      update j lead (inr l) = c_eq (kept j lead l ∙ sym (ap (λ (y : ℕ). coef H j + i * y) (short j l)
          ∙ ap (λ (y : ℕ). coef H j + y) (mul-zero i) ∙ add-zero _))

-- the zeros of the remainder
pub round_left : (n d t z : ℕ) (w w' : List ℕ) → RoundAsked n d t w → Round n d t w w'
    → Zeros (mid_of (d + 1 + (t + 1)) (d + 1 + (t + 1) + t - (d + 1 + (t + 1))) w') z → RoundLeft n d t z w w'
round_left n d t z w w' g r zs = record {
  round = r;
  most = omega (arith, zs.most, count);
  zero = λ k l. sym (mid_at (d + 1 + (t + 1)) (d + 1 + (t + 1) + t - (d + 1 + (t + 1))) w' k (omega (arith, zs.most, count)))
      ∙ zs.zero k l;
  next = λ l e. zs.next (omega (arith, count)) (mid_at (d + 1 + (t + 1)) (d + 1 + (t + 1) + t - (d + 1 + (t + 1))) w' z (omega arith) ∙ e);
}
  where
    count : length (mid_of (d + 1 + (t + 1)) (d + 1 + (t + 1) + t - (d + 1 + (t + 1))) w') ≡ t
    count = length-take-le (d + 1 + (t + 1) + t - (d + 1 + (t + 1))) (drop (d + 1 + (t + 1)) w')
        (simp length-drop (omega (arith, r.around.same, g.fits, g.within))) ∙
        (let e : d + 1 + (t + 1) + t - (d + 1 + (t + 1)) ≡ t = omega arith in e)

-- ---- the loop, as the code has it: w₀ is the buffer after the first scaling, w what it is now

pub record Nearing (n d t i : ℕ) (w₀ : List ℕ) (k : ℕ) (w : List ℕ) : Type 0 where
  pub two : 2 ≤ n
  pub small : i < n
  pub within : t ≤ d
  pub fits : d + 1 + (t + 1 + (d + 1)) ≤ length w
  pub unit : (i * coef (piece w₀ 0 (d + 1)) t) % n ≡ 1 % n
  pub radical : (j : ℕ) → t < j → InRadical n (coef (piece w₀ 0 (d + 1)) j)
  pub around : Around (d + 1) (t + 1 + (d + 1)) w₀ w
  pub holds : RoundHolds n d t k i (piece w₀ 0 (d + 1)) w

pub enter : (n d t i : ℕ) (w w₀ : List ℕ) → Given n d t i w → Moved (mulBy n i) 0 (d + 1) (t + 1) w w₀ → 2 ≤ n → t ≤ d
    → d + 1 + (t + 1 + (d + 1)) ≤ length w → Nearing n d t i w₀ 0 w₀
enter n d t i w w₀ g sc two td fits = record {
  two = two;
  small = g.small;
  within = td;
  fits = omega (arith, sc.same);
  unit = ap (λ (F : List ℕ). (i * coef F t) % n) begun.poly ∙ g.unit;
  radical = λ j l. subst (λ (F : List ℕ). InRadical n (coef F j)) (sym begun.poly) (nilpotent_radical (g.nilpotent j l));
  around = around_none _ _ w₀;
  holds = subst (λ (F : List ℕ). RoundHolds n d t 0 i F w₀) (sym begun.poly) begun;
}
  where
    begun : RoundHolds n d t 0 i (piece w 0 (d + 1)) w₀
    begun = round_start n d t i w w₀ two td fits g sc

module _ (n d t i k : ℕ) (w₀ w : List ℕ) (x : Nearing n d t i w₀ k w) where
  pub round_started : (n' d' t' : ℕ) (w' : List ℕ) → n' ≡ n → d' ≡ d → t' ≡ t → w' ≡ w → RoundAsked n' d' t' w'
  round_started n' d' t' w' en ed et ew = rw (en, ed, et, ew) (record {
    positive = omega (arith, x.two);
    within = x.within;
    fits = x.fits;
    below_f = x.holds.small;
    below_h = x.holds.below;
    monic = x.holds.lead;
  })

  -- there are fewer rounds than n
  pub round_never : {w' : List ℕ} → n ≤ k → Factored n d t w' w
  round_never l = absurd (omega (arith, round_below (omega (arith, x.two)) x.holds))

  module _ (z : ℕ) (w₃ : List ℕ) (r : RoundLeft n d t z w w₃) where
    -- what the remainder is added by
    module _ {n' src len : ℕ} {w' : List ℕ} (en : n' ≡ n) (es : src ≡ d + 1 + (t + 1)) (el : len ≡ t) (ew : w' ≡ w₃) where
      pub again_asked : {i' dst : ℕ} → i' ≡ i → dst ≡ d + 1 → PairAsked n' i' src dst len w'
      again_asked ei ed = rw (en, ei, es, ed, el, ew) (record {
        modulus = omega (arith, x.two);
        factor = omega (arith, x.small);
        source = omega (arith, r.round.around.same, x.fits, x.within);
        target = omega (arith, r.round.around.same, x.fits);
        apart = record { ok = λ a b p q e. omega arith };
        below = below_is n (d + 1) (d + 1) t w w₃ (λ j l. r.round.around.low (d + 1 + j) (omega arith))
            (record { at = λ j l. x.holds.below.at j (omega arith) });
      })

      pub again_below : Below n' src len w'
      again_below = rw (en, es, el, ew) (record { at = λ j l. r.round.below.at j (omega (arith, x.within)) })

    pub again : (k' : ℕ) (w₄ : List ℕ) → (z ≡ t → ⊥) → Moved (addMul n i) (d + 1 + (t + 1)) (d + 1) t w₃ w₄ → k' ≡ k + 1
        → Nearing n d t i w₀ k' w₄
    again k' w₄ ne mv e = rw e (record {
      two = x.two;
      small = x.small;
      within = x.within;
      fits = omega (arith, mv.same, r.round.around.same, x.fits);
      unit = x.unit;
      radical = x.radical;
      around = around_trans x.around
          (around_trans (around_wide (d + 1) (t + 1 + (d + 1)) (omega arith) (omega arith) r.round.around)
          (around_wide (d + 1) (t + 1 + (d + 1)) (omega arith) (omega arith) (moved_around mv)));
      holds = round_next n d t k i _ w w₃ x.two x.within x.fits x.unit x.radical x.holds r.round z w₄
          (omega (arith, r.most)) (r.next (omega (arith, r.most))) mv;
    })

    pub leave : (w' : List ℕ) → Moved (mulBy n i) 0 (d + 1) (t + 1) w' w₀ → z ≡ t → Factored n d t w' w₃
    leave w' sc e =
        round_end n d t k i _ w w₃ x.two x.within x.fits x.unit x.radical x.holds r.round w' same
        (around_trans (around_wide (d + 1) (t + 1 + (d + 1)) (omega arith) (omega arith) (moved_around sc))
        (around_trans x.around (around_wide (d + 1) (t + 1 + (d + 1)) (omega arith) (omega arith) r.round.around)))
        (λ j l. r.zero j (omega arith))
      where
        same : piece w' 0 (d + 1) ≡ piece w₀ 0 (d + 1)
        same = sym (piece_low (moved_around sc) 0 (d + 1) (omega arith) (omega (arith, x.fits, x.around.same, sc.same)))

pub ruleset rounds = (rules, round_sizes, round_pair, round_lead, round, round_one, round_left)

pub ruleset loop_rounds = (tt, enter, round_started, round_never, leave, again)

pub ruleset addings = (again_asked, again_below)
