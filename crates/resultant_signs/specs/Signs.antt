-- The sign (-1)^k modulo n goes by the parity of k. `signed n k x` is x with that sign.
--
--   signed_even, signed_odd   the two cases
--   signed_twice              the same sign twice
--   sign_first, sign_second, sign_odd    the sign of a product of degrees
use Rattle.std.specs.Prelude.{◌≡◌, refl, ℕ, zero, suc, ◌-◌, ◌*◌, ◌%◌, ◌<◌}
use Rattle.std.proofs.Common.{sym, ap, ap₂, ◌∙◌, arith, mod-eq_of_lt, mod-lt}
use Rattle.law_algebra.specs.Residues.{mul_mod}
use Rattle.arithmetic.proofs.Negatives.{negative_none, negative_some}
use Rattle.law_polynomials.specs.ResultantLaws.{signed}

negative_twice : (n x : ℕ) → x < n → (n - (n - x) % n) % n ≡ x
negative_twice n zero l = sym (negative_none n ((n - 0) % n) (sym (negative_none n 0 refl)))
negative_twice n (suc x) l =
    ap (λ (y : ℕ). (n - y) % n) (sym (negative_some n (suc x) (omega arith) (λ h. omega arith))) ∙ ap (λ (y : ℕ). y % n) back
    ∙ mod-eq_of_lt l
  where
    back : n - (n - suc x) ≡ suc x
    back = omega arith

pub signed_lt : (n k x : ℕ) → x < n → signed n k x < n
signed_lt n zero x l = l
signed_lt n (suc k) x l = mod-lt (n - signed n k x) (omega arith)

parity : (n k x : ℕ) → x < n → (k % 2 ≡ 0 → signed n k x ≡ x) × (k % 2 ≡ 1 → signed n k x ≡ (n - x) % n)
parity n zero x l = (λ h. refl, λ h. absurd (omega arith))
parity n (suc k) x l =
    let b = parity n k x l in
    (λ h. ap (λ (y : ℕ). (n - y) % n) (b.1 (omega arith)) ∙ negative_twice n x l, λ h. ap (λ (y : ℕ). (n - y) % n) (b.0 (omega arith)))

pub signed_even : (n k x : ℕ) → x < n → k % 2 ≡ 0 → signed n k x ≡ x
signed_even n k x l h = (parity n k x l).0 h

pub signed_odd : (n k x : ℕ) → x < n → k % 2 ≡ 1 → signed n k x ≡ (n - x) % n
signed_odd n k x l h = (parity n k x l).1 h

pub signed_twice : (n k x : ℕ) → x < n → signed n k (signed n k x) ≡ x
signed_twice n zero x l = refl
signed_twice n (suc k) x l = go (suc k % 2) refl (omega arith)
  where
    go : (r : ℕ) → suc k % 2 ≡ r → r < 2 → signed n (suc k) (signed n (suc k) x) ≡ x
    go zero h b = signed_even n (suc k) (signed n (suc k) x) (signed_lt n (suc k) x l) h ∙ signed_even n (suc k) x l h
    go (suc zero) h b =
        signed_odd n (suc k) (signed n (suc k) x) (signed_lt n (suc k) x l) h ∙ ap (λ (y : ℕ). (n - y) % n) (signed_odd n (suc k) x l h)
        ∙ negative_twice n x l
    go (suc (suc r)) h b = absurd (omega arith)

-- ---- the sign of d e, from the parities of d and e

product_parity : (d e p q : ℕ) → d % 2 ≡ p → e % 2 ≡ q → (d * e) % 2 ≡ (p * q) % 2
product_parity d e p q hp hq = mul_mod d e 2 ∙ ap₂ (λ (x y : ℕ). (x * y) % 2) hp hq

pub sign_first : (n d e x : ℕ) → x < n → d % 2 ≡ 0 → x ≡ signed n (d * e) x
sign_first n d e x l h = sym (signed_even n (d * e) x l (product_parity d e 0 (e % 2) h refl ∙ none (e % 2)))
  where
    none : (q : ℕ) → (0 * q) % 2 ≡ 0
    none q = omega arith

pub sign_second : (n d e x : ℕ) → x < n → e % 2 ≡ 0 → x ≡ signed n (d * e) x
sign_second n d e x l h = sym (signed_even n (d * e) x l (product_parity d e (d % 2) 0 refl h ∙ none (d % 2)))
  where
    none : (p : ℕ) → (p * 0) % 2 ≡ 0
    none p = omega arith

-- where d is odd, e decides
pub sign_odd : (n d e x : ℕ) → x < n → d % 2 ≡ 1 → signed n e x ≡ signed n (d * e) x
sign_odd n d e x l h = go (e % 2) refl (omega arith)
  where
    go : (r : ℕ) → e % 2 ≡ r → r < 2 → signed n e x ≡ signed n (d * e) x
    go zero g b = signed_even n e x l g ∙ sign_second n d e x l g
    go (suc zero) g b = signed_odd n e x l g ∙ sym (signed_odd n (d * e) x l (product_parity d e 1 1 h g))
    go (suc (suc r)) g b = absurd (omega arith)
