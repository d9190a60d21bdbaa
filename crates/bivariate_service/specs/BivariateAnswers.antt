-- What is true of the answers of the resultant of two variables, from its promise alone.
--
--   two_words            word k of an answer
--   answer_value         at every point, and not only 0 to B, the answer's value is the resultant of the evaluated pair
--   answer_constant      with a = b = 0 the answer is the resultant
--
-- Letters: f is of degrees d in y and a in z, g of e and b; z is a point.
use Rattle.std.specs.Prelude.{◌≡◌, List, ℕ, zero, suc, pred, ◌*◌, ◌%◌, ◌^◌, ◌<◌, ◌≤◌, length, drop}
use Rattle.std.proofs.Common.{sym, ap, subst, ◌∙◌, arith}
use Rattle.std.proofs.Math.ListN.{get_or-append}
use Rattle.definitions.specs.Polynomials.{coef, total, tabulate}
use Rattle.definitions.specs.Resultants.{resultant}
use Rattle.definitions.specs.Bivariate.{bivariate_resultant_of, bivariate_degree}
use Rattle.law_polynomials.specs.BivariateLaws.{evaluated, bivariate_value, bivariate_constant}
use Rattle.law_polynomials.specs.Words.{coef_tabulate, length_tabulate, total_cong}
use Rattle.refusals.specs.Refusals.{Width}
use Rattle.refusals.specs.Conditions.{ServedModulus, Passed, status_zero}
use Rattle.bivariate_service.specs.BivariateService.{BivariateAnswer, bivariate_refusals, bivariate_conditions, bivariate_listed}

module _ {W : Width} {n : ℕ} {f : List ℕ} {d a : ℕ} {g : List ℕ} {e b : ℕ} {out out' work work' : List ℕ} {value : ℕ}
    (t : BivariateAnswer W n f d a g e b out out' work work' value 0) where
  pub two_words : (k : ℕ) → k ≤ bivariate_degree d a e b → coef out' k ≡ bivariate_resultant_of n d a e b f g k
  two_words k l =
      ap (λ (w : List ℕ). coef w k) t.out_is
      ∙ get_or-append x (drop (length x) out) 0 k (subst (λ (i : ℕ). k < i) (sym (length_tabulate (suc B) F)) (omega arith))
      ∙ coef_tabulate (suc B) F k (omega arith)
    where
      B : ℕ
      B = bivariate_degree d a e b

      F : ℕ → ℕ
      F = bivariate_resultant_of n d a e b f g

      x : List ℕ
      x = tabulate (suc B) F

  modulus : ServedModulus W n
  modulus =
      ((status_zero (bivariate_refusals W n f d a g e b (length out) (length work))
      (bivariate_conditions W n f d a g e b (length out) (length work))
      (bivariate_listed W n f d a g e b (length out) (length work))).0 (sym t.status_is)).0

  -- AT EVERY POINT the answer's value is the resultant of the evaluated pair
  pub answer_value : (z : ℕ) → total (suc (bivariate_degree d a e b)) (λ k. coef out' k * z ^ k) % n
      ≡ resultant n (evaluated d a f z) (evaluated e b g z)
  answer_value z =
      ap (λ (x : ℕ). x % n) (total_cong (suc (bivariate_degree d a e b)) (λ k. coef out' k * z ^ k)
      (λ k. bivariate_resultant_of n d a e b f g k * z ^ k)
      (λ k l. ap (λ (x : ℕ). x * z ^ k) (two_words k (omega arith))))
      ∙ go n modulus.least
    where
      go : (n : ℕ) → 2 ≤ n → total (suc (bivariate_degree d a e b)) (λ k. bivariate_resultant_of n d a e b f g k * z ^ k) % n
          ≡ resultant n (evaluated d a f z) (evaluated e b g z)
      go zero l = absurd (omega arith)
      go (suc m) l = bivariate_value m d a e b f g z

-- WITH a = b = 0 the answer is the resultant
pub answer_constant : {W : Width} {n : ℕ} {f : List ℕ} {d : ℕ} {g : List ℕ} {e : ℕ} {out out' work work' : List ℕ} {value : ℕ}
    → BivariateAnswer W n f d 0 g e 0 out out' work work' value 0 → coef out' 0 ≡ resultant n f g
answer_constant {W} {n} {f} {d} {g} {e} {out} {out'} {work} {work'} t = two_words t 0 (omega arith) ∙ go n served.0.least
  where
    served : Passed (bivariate_conditions W n f d 0 g e 0 (length out) (length work))
    served =
        (status_zero (bivariate_refusals W n f d 0 g e 0 (length out) (length work))
        (bivariate_conditions W n f d 0 g e 0 (length out) (length work))
        (bivariate_listed W n f d 0 g e 0 (length out) (length work))).0 (sym t.status_is)

    one : (d : ℕ) → suc d * 1 ≡ suc d
    one d = omega arith

    go : (n : ℕ) → 2 ≤ n → bivariate_resultant_of n d 0 e 0 f g 0 ≡ resultant n f g
    go zero l = absurd (omega arith)
    go (suc m) l = bivariate_constant m d e f g (ap pred (served.1.0.words ∙ one d)) (ap pred (served.1.1.0.words ∙ one e))
