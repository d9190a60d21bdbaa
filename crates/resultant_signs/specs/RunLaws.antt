-- A whole run without inverses, for words modulo n: what is known of the resultant R₀ of the polynomials sent, from that, R, of the pair
-- that is left, the first of degree d. No unit is asked for but at the end.
--
--   Run n S P A d R₀ R    S P^d R₀ is P A R modulo n
--   run_start, run_elimination, run_fall, run_step, run_drop    the steps
--   run_end               d = 0 and S a unit: the value
--
-- Letters: P is the product of the powers of leading words taken so far, S that of the P's at each degree, A what zero leading words gave.
use Rattle.std.specs.Prelude.{◌≡◌, refl, ℕ, zero, suc, ◌-◌, ◌*◌, ◌^◌}
use Rattle.std.proofs.Common.{sym, ap, ◌∙◌, arith, mul-one, one-mul, pow-suc}
use Rattle.std.proofs.Math.Nat.{pow-zero, pow-succ'}
use Rattle.law_numbers.specs.Congruence.{Cong, c_refl, c_sym, c_trans, c_eq, c_mul, c_pow, ring}
use Rattle.resultant_signs.specs.EliminationLaws.{mul_pow}

pub record Run (n S P A d R₀ R : ℕ) : Type 0 where
  pub is : Cong n (S * P ^ d * R₀) (P * A * R)

pub run_start : (n d R : ℕ) → Run n 1 1 1 d R R
run_start n d R = record { is = c_eq (ap (λ (x : ℕ). 1 * x * R) (ones d) ∙ same) }
  where
    same : 1 * 1 * R ≡ 1 * 1 * R
    same = refl

    ones : (k : ℕ) → 1 ^ k ≡ 1
    ones zero = pow-zero 1
    ones (suc k) = pow-suc 1 k ∙ mul-one (1 ^ k) ∙ ones k

-- l^d R = l R', the degree as it was
pub run_elimination : {n S P A d R₀ R : ℕ} (l P' R' : ℕ) → Run n S P A d R₀ R → Cong n (l ^ d * R) (l * R') → Cong n P' (P * l)
    → Run n S P' A d R₀ R'
run_elimination {n} {S} {P} {A} {d} {R₀} {R} l P' R' r law hp = record {
  is = c_trans (c_mul (c_mul (c_refl {a = S}) (c_trans (c_pow hp d) (c_eq (mul_pow P l d)))) (c_refl {a = R₀}))
      (c_trans (c_eq {b = l ^ d * (S * P ^ d * R₀)} (simp ring))
      (c_trans (c_mul (c_refl {a = l ^ d}) r.is)
      (c_trans (c_eq {b = P * A * (l ^ d * R)} (simp ring))
      (c_trans (c_mul (c_refl {a = P * A}) law)
      (c_trans (c_eq {b = P * l * A * R'} (simp ring)) (c_mul (c_mul (c_sym hp) (c_refl {a = A})) (c_refl {a = R'})))))));
}

-- one degree less, R and P as they were
pub run_fall : {n S P A d R₀ R : ℕ} (S' d' : ℕ) → d ≡ suc d' → Run n S P A d R₀ R → Cong n S' (S * P) → Run n S' P A d' R₀ R
run_fall {n} {S} {P} {A} {d} {R₀} {R} S' d' e r hs = record {
  is = c_trans (c_mul (c_mul hs (c_refl {a = P ^ d'})) (c_refl {a = R₀}))
      (c_trans (c_eq (ap (λ (x : ℕ). x * R₀) (assoc S P (P ^ d')) ∙ ap (λ (x : ℕ). S * x * R₀) (sym (pow-succ' P d')
      ∙ ap (λ (x : ℕ). P ^ x) (sym e)))) r.is);
}
  where
    assoc : (a b c : ℕ) → a * b * c ≡ a * (b * c)
    assoc a b c = omega arith

-- x^d R = x R' and one degree less: a step by division
pub run_step : {n S P A d R₀ R : ℕ} (x S' P' R' d' : ℕ) → d ≡ suc d' → Run n S P A d R₀ R → Cong n (x ^ d * R) (x * R')
    → Cong n P' (P * x) → Cong n S' (S * P')
    → Run n S' P' A d' R₀ R'
run_step x S' P' R' d' e r law hp hs = run_fall S' d' e (run_elimination x P' R' r law hp) hs

-- R = y R' and one degree less: a zero lead
pub run_drop : {n S P A d R₀ R : ℕ} (y S' A' R' d' : ℕ) → d ≡ suc d' → Run n S P A d R₀ R → Cong n R (y * R') → Cong n A' (A * y)
    → Cong n S' (S * P)
    → Run n S' P A' d' R₀ R'
run_drop {n} {S} {P} {A} {d} {R₀} {R} y S' A' R' d' e r law ha hs = run_fall S' d' e (record {
  is = c_trans r.is (c_trans (c_mul (c_refl {a = P * A}) law)
      (c_trans (c_eq {b = P * (A * y) * R'} (simp ring)) (c_mul (c_mul (c_refl {a = P}) (c_sym ha)) (c_refl {a = R'}))));
}) hs

-- i S = 1: the value is i P A R
pub run_end : {n S P A d R₀ R : ℕ} (i : ℕ) → d ≡ 0 → Run n S P A d R₀ R → Cong n (i * S) 1 → Cong n R₀ (i * (P * A * R))
run_end {n} {S} {P} {A} {d} {R₀} {R} i z r h =
    c_trans (c_eq (sym (one-mul R₀)))
    (c_trans (c_mul (c_sym h) (c_refl {a = R₀}))
    (c_trans (c_eq (elimination i S R₀ ∙ ap (λ (x : ℕ). i * (S * x * R₀)) (sym (ap (λ (x : ℕ). P ^ x) z
    ∙ pow-zero P)))) (c_mul (c_refl {a = i}) r.is)))
  where
    elimination : (a b c : ℕ) → a * b * c ≡ a * (b * 1 * c)
    elimination a b c = omega arith
