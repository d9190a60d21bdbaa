-- A product taken from a window, modulo the monic polynomial at 0, at any width.
--
--   taken_short                   t words hold what is left
--   long_sizes, pair_at, lead_at  what the division asks where they do not
--   taken_long                    what comes of it
--   takings                       the rules
use mathlib.Core.Path.{◌≡◌, refl, sym, ap, ap₂, subst, ◌∙◌, fun_ext}
use mathlib.Core.List.{List, []}
use mathlib.Core.Logic.{⊎_elim}
use Prim.Native.Nat.{ℕ, zero, suc, ◌+◌, ◌-◌, ◌*◌, ◌%◌, ◌≤◌, ◌<◌}
use native.Mathlib.Omega.{arith}
use native.Mathlib.Nat.{mod-lt, zero-add, add-zero, add_assoc, one-mul}
use borrow.Author.Rules.{rules}
use lib.ListN.{length, get_or}
use Rattle.law_numbers.specs.Congruence.{Cong, c_refl, c_trans, c_eq, c_add}
use Rattle.definitions.specs.Polynomials.{coef, convolve, tabulate, Divided}
use Rattle.law_polynomials.specs.ReachedSteps.{coef_whole, coef_beyond}
use Rattle.windows.specs.Window.{piece, Moved, zeroed, Below, Around, Apart}
use Rattle.windows.proofs.Leaf.{lt_or_le, piece_at, piece_over, piece_same}
use Rattle.window_division.specs.Remainders.{DivisionLengthsAsked, Pair, Remainder}
use Rattle.window_division.proofs.DivisionRounds.{convolve_none}
use Rattle.law_multipliers.specs.Multipliers.{Taken}
use Rattle.reduced_products.specs.Products.{ProductAsked, Factors, FactorsModulo, Subtracted, MonicAtZero, TakenFrom}

convolve_empty : (F : ℕ → ℕ) (k : ℕ) → convolve (coef []) F k ≡ 0
convolve_empty F k = ap (λ (a : ℕ → ℕ). convolve a F k) (fun_ext (λ i. coef_beyond [] i (omega arith))) ∙ convolve_none F k

-- t words hold what is left
pub taken_short : (n t p lp q lq dst : ℕ) (w w' : List ℕ) → ProductAsked n p lp q lq dst w → Subtracted n p lp q lq dst w w'
    → lp + lq - 1 ≤ t → TakenFrom n t p lp q lq dst (lp + lq - 1) w w'
taken_short n t p lp q lq dst w w' room s h = record {
  around = s.around;
  below = s.below;
  within = h;
  most = omega arith;
  some = omega arith;
  full = λ _. refl;
  zero = λ k l m. absurd (omega arith);
  taken = record {
    z = [];
    at = λ k. ap (λ (x : ℕ). (x + convolve (coef (piece w p lp)) (coef (piece w q lq)) k + coef (piece w' dst (lp + lq - 1)) k) % n)
        (convolve_empty (coef (piece w 0 (t + 1))) k)
        ∙ ap (λ (x : ℕ). (x + coef (piece w' dst (lp + lq - 1)) k) % n) (zero-add _) ∙ s.divided.at k;
  };
}

module _ (n t p lp q lq dst l : ℕ) (w w₁ w₂ w₃ : List ℕ) (pos : 1 ≤ n) (one : 1 ≤ t) (fits : dst + l ≤ length w) (is_l : l ≡ lp + lq - 1)
    (over : t < l) (apart : t + 1 ≤ dst)
    (s : Subtracted n p lp q lq dst w w₁) (r : Remainder n 0 t dst (l - 1) w₁ w₂) (z : Moved zeroed (dst + t) (dst + t) (l - t) w₂ w₃) where
  -- the polynomial at 0 is what it was
  kept : piece w₁ 0 (t + 1) ≡ piece w 0 (t + 1)
  kept = piece_same w w₁ 0 (t + 1) (omega arith) s.around.same (λ k h. s.around.low (0 + k) (omega arith))

  Z : List ℕ
  Z = tabulate l r.q

  Z_at : (k : ℕ) → coef Z k ≡ r.q k
  unfolding Z
  Z_at k = coef_whole l r.q (λ i h. r.top i (omega arith)) k

  nought : (k : ℕ) → t ≤ k → k < l → get_or w₃ (dst + k) 0 ≡ 0
  nought k h b = ap (λ (x : ℕ). get_or w₃ x 0) (let e : dst + k ≡ dst + t + (k - t) = omega arith in e) ∙ z.mid (k - t) (omega arith)

  -- the remainder, and zeros
  left : (k : ℕ) → coef (piece w₃ dst l) k ≡ coef (piece w₂ dst t) k
  left k =
      ⊎_elim
      (λ h. piece_at w₃ dst l k (omega arith) ∙ z.low (dst + k) (omega arith) ∙ sym (piece_at w₂ dst t k h))
      (λ h. ⊎_elim
      (λ b. piece_at w₃ dst l k b ∙ nought k h b ∙ sym (piece_over w₂ dst t k h))
      (λ b. piece_over w₃ dst l k b ∙ sym (piece_over w₂ dst t k h))
      (lt_or_le k l))
      (lt_or_le k t)

  shorter : l - 1 + 1 ≡ l
  shorter = omega arith

  whole : (k : ℕ) → (convolve (coef Z) (coef (piece w 0 (t + 1))) k + convolve (coef (piece w p lp)) (coef (piece w q lq)) k + coef
      (piece w₃ dst l) k) % n ≡ coef (piece w dst l) k % n
  whole k =
      (c_trans (c_eq (round (convolve (coef Z) (coef (piece w 0 (t + 1))) k) (convolve (coef (piece w p lp)) (coef (piece w q lq)) k)
      (coef (piece w₃ dst l) k)))
      (c_trans (c_add (c_refl {a = convolve (coef (piece w p lp)) (coef (piece w q lq)) k}) rest)
      (record {
        same = subst (λ (x : ℕ). (convolve (coef (piece w p lp)) (coef (piece w q lq)) k + coef (piece w₁ dst x) k) % n ≡ coef
            (piece w dst x) k % n) (sym is_l) (s.divided.at k);
      }))).same
    where
      round : (a b c : ℕ) → a + b + c ≡ b + (a + c)
      round a b c = omega arith

      rest : Cong n (convolve (coef Z) (coef (piece w 0 (t + 1))) k + coef (piece w₃ dst l) k) (coef (piece w₁ dst l) k)
      rest = record {
        same =
            ap₂ (λ (F : ℕ → ℕ) (f : List ℕ). (convolve F (coef f) k + coef (piece w₃ dst l) k) % n) (fun_ext Z_at) (sym kept)
            ∙ ap (λ (x : ℕ). (convolve r.q (coef (piece w₁ 0 (t + 1))) k + x) % n) (left k)
            ∙ r.at k ∙ ap (λ (x : ℕ). coef (piece w₁ dst x) k % n) shorter;
      }

  around : Around dst l w w₃
  around = record {
    same = z.same ∙ r.around.same ∙ s.around.same;
    low = λ k h. z.low k (omega arith) ∙ r.around.low k h ∙ s.around.low k h;
    high = λ k h. z.high k (omega arith) ∙ r.around.high k (omega arith) ∙ s.around.high k (omega arith);
  }

  below : Below n dst l w₃
  below = record {
    at = λ k h. ⊎_elim
        (λ b. subst (λ (x : ℕ). x < n) (sym (z.low (dst + k) (omega arith))) (r.below.at k (omega arith)))
        (λ b. subst (λ (x : ℕ). x < n) (sym (nought k b h)) pos)
        (lt_or_le k t);
  }

  long_taken : TakenFrom n t p lp q lq dst t w w₃
  unfolding Z
  long_taken = subst (λ (x : ℕ). t < x → Around dst x w w₃ → Below n dst x w₃ → ((k : ℕ) → t ≤ k → k < x → get_or w₃ (dst + k) 0 ≡ 0)
      → Taken n (piece w 0 (t + 1)) (piece w q lq) (piece w p lp) (piece w dst x) (piece w₃ dst x) → x ≡ lp + lq - 1
      → TakenFrom n t p lp q lq dst t w w₃) (sym is_l)
      (λ o a b c d e. record {
        around = a;
        below = b;
        within = omega arith;
        most = omega arith;
        some = one;
        full = λ x. absurd
            (omega arith);
        zero = c;
        taken = d;
      })
      over around below nought (record { z = Z; at = whole }) is_l

-- ---- as the code has it

module _ (n t p lp q lq dst : ℕ) (w w₁ : List ℕ) (room : ProductAsked n p lp q lq dst w) (fm : FactorsModulo n t p lp q lq dst w)
    (s : Subtracted n p lp q lq dst w w₁) where
  pub long_sizes : t < lp + lq - 1 → DivisionLengthsAsked n 0 t dst (lp + lq - 1 - 1) w₁
  long_sizes h = record {
    modulus = room.modulus;
    degree = fm.degree;
    near = omega arith;
    divisor = omega (arith, fm.after, room.product, s.around.same);
    dividend = omega (arith, room.product, s.around.same);
  }

  -- the divisor at 0, and what it divides
  pub pair_at : t < lp + lq - 1 → Pair n 0 t dst (lp + lq - 1 - 1) w₁
  pair_at h = record {
    first = record {
      at = λ k b. subst (λ (x : ℕ). x < n) (sym (s.around.low (0 + k) (omega (arith, fm.after)))) (fm.monic.below.at k b);
    };
    second = record { at = λ k b. s.below.at k (omega arith) };
    apart = record { ok = λ i j a b e. omega (arith, fm.after) };
  }

  pub lead_at : (1 * get_or w₁ (0 + t) 0) % n ≡ 1 % n
  lead_at =
      ap (λ (x : ℕ). x % n) (one-mul _ ∙ ap (λ (x : ℕ). get_or w₁ x 0) (zero-add t) ∙ s.around.low t (omega (arith, fm.after))
      ∙ fm.monic.lead)

  pub taken_long : (w₂ w₃ : List ℕ) → t < lp + lq - 1 → Remainder n 0 t dst (lp + lq - 1 - 1) w₁ w₂
      → Moved zeroed (dst + t) (dst + t) (lp + lq - 1 - t) w₂ w₃ → TakenFrom n t p lp q lq dst t w w₃
  taken_long w₂ w₃ h r z =
      long_taken n t p lp q lq dst (lp + lq - 1) w w₁ w₂ w₃ room.modulus fm.degree room.product refl h fm.after s r z

pub ruleset takings = (rules, taken_short, long_sizes, pair_at, lead_at, taken_long)
