-- Sums and convolutions of numbers, and what they are modulo n. Polynomials are functions from places to coefficients.
--
--   total_last, total_none, total_more     a sum by its last term, without terms, with terms that are 0
--   total_mod, total_at                    congruent terms; the one term in which congruent sums may differ
--   convolve_last, convolve_comm           the last term; the order of the factors
--   convolve_mod, convolve_constant        congruent factors; a constant factor
--   convolve_shift, convolve_first         the places above a degree; the lowest coefficient
--   convolve_out                           there is nothing above the sum of the degrees
--   zeros_at                               the coefficients of zeros
use Rattle.std.specs.Prelude.{◌≡◌, ℕ, zero, suc, ◌+◌, ◌-◌, ◌*◌, ◌<◌, ◌≤◌, replicate, ◌≢◌, refl}
use Rattle.std.proofs.Common.{sym, ap, ap₂, ◌∙◌, add_assoc, add_comm, add-zero, zero-add, zero-mul, mul-zero, mul_comm, suc-add, arith}
use Rattle.std.proofs.Math.Decide.{dec_lt}
use Rattle.definitions.specs.Polynomials.{coef, total, convolve, constant}
use Rattle.law_numbers.specs.Congruence.{Cong, c_refl, c_sym, c_trans, c_eq, c_add, c_mul, c_cancel}
use Rattle.law_polynomials.specs.Words.{total_cong, convolve_zero, convolve_suc}

-- ---- sums

pub total_last : (m : ℕ) (F : ℕ → ℕ) → total (suc m) F ≡ total m F + F m
total_last zero F = add_comm (F 0) 0
total_last (suc m) F = ap (λ (x : ℕ). F 0 + x) (total_last m (λ i. F (suc i)))
    ∙ sym (add_assoc (F 0) (total m (λ i. F (suc i))) (F (suc m)))

pub total_none : (m : ℕ) (F : ℕ → ℕ) → ((i : ℕ) → i < m → F i ≡ 0) → total m F ≡ 0
total_none zero F h = refl
total_none (suc m) F h = ap₂ (λ (x y : ℕ). x + y) (h 0 (omega arith)) (total_none m (λ i. F (suc i)) (λ i l. h (suc i) (omega arith)))

pub total_more : (m k : ℕ) (F : ℕ → ℕ) → m ≤ k → ((i : ℕ) → m ≤ i → i < k → F i ≡ 0) → total k F ≡ total m F
total_more zero k F l h = total_none k F (λ i p. h i (omega arith) p)
total_more (suc m) zero F l h = absurd (omega arith)
total_more (suc m) (suc k) F l h = ap (λ (x : ℕ). F 0 + x) (total_more m k (λ i. F (suc i)) (omega arith)
    (λ i p q. h (suc i) (omega arith) (omega arith)))

pub total_mod : (n m : ℕ) (F G : ℕ → ℕ) → ((i : ℕ) → i < m → Cong n (F i) (G i)) → Cong n (total m F) (total m G)
total_mod n zero F G h = c_refl
total_mod n (suc m) F G h = c_add (h 0 (omega arith)) (total_mod n m (λ i. F (suc i)) (λ i. G (suc i)) (λ i l. h (suc i) (omega arith)))

-- two sums that agree, and whose terms agree but for the one at t, agree there too
pub total_at : (n m t : ℕ) (F G : ℕ → ℕ) → 0 < n → t < m → ((i : ℕ) → i < m → (i ≢ t) → Cong n (F i) (G i))
    → Cong n (total m F) (total m G) → Cong n (F t) (G t)
total_at n zero t F G pos l h s = absurd (omega arith)
total_at n (suc m) zero F G pos l h s =
    let X : ℕ = total m (λ i. F (suc i)) in
    c_cancel X pos
    (c_trans s (c_add c_refl (c_sym (total_mod n m (λ i. F (suc i)) (λ i. G (suc i)) (λ i q. h (suc i) (omega arith) (λ e. omega arith))))))
total_at n (suc m) (suc t) F G pos l h s =
    let X : ℕ = total m (λ i. F (suc i)) in
    let Y : ℕ = total m (λ i. G (suc i)) in
    total_at n m t (λ i. F (suc i)) (λ i. G (suc i)) pos (omega arith) (λ i q ne. h (suc i) (omega arith) (λ e. ne (omega arith)))
    (c_cancel (F 0) pos
    (c_trans (c_eq (add_comm X (F 0))) (c_trans s (c_trans (c_add (c_sym (h 0 (omega arith) (λ e. omega arith))) c_refl)
    (c_eq (add_comm (F 0) Y))))))

-- ---- convolutions

pub convolve_last : (p q : ℕ → ℕ) (k : ℕ) → convolve p q (suc k) ≡ p (suc k) * q 0 + convolve p (λ i. q (suc i)) k
convolve_last p q zero = convolve_suc p q 0 ∙ ap (λ (x : ℕ). p 0 * q 1 + x) (convolve_zero (λ i. p (suc i)) q)
    ∙ round (p 0 * q 1) (p 1 * q 0) ∙ ap (λ (x : ℕ). p 1 * q 0 + x) (sym (convolve_zero p (λ i. q (suc i))))
  where
    round : (a b : ℕ) → a + b ≡ b + a
    round a b = omega arith
convolve_last p q (suc k) =
    convolve_suc p q (suc k)
    ∙ ap (λ (x : ℕ). p 0 * q (suc (suc k)) + x) (convolve_last (λ i. p (suc i)) q k)
    ∙ round (p 0 * q (suc (suc k))) (p (suc (suc k)) * q 0) (convolve (λ i. p (suc i)) (λ i. q (suc i)) k)
    ∙ ap (λ (x : ℕ). p (suc (suc k)) * q 0 + x) (sym (convolve_suc p (λ i. q (suc i)) k))
  where
    round : (a b c : ℕ) → a + (b + c) ≡ b + (a + c)
    round a b c = omega arith

pub convolve_comm : (p q : ℕ → ℕ) (k : ℕ) → convolve p q k ≡ convolve q p k
convolve_comm p q zero = convolve_zero p q ∙ mul_comm (p 0) (q 0) ∙ sym (convolve_zero q p)
convolve_comm p q (suc k) =
    convolve_suc p q k ∙ ap₂ (λ (x y : ℕ). x + y) (mul_comm (p 0) (q (suc k))) (convolve_comm (λ i. p (suc i)) q k)
    ∙ sym (convolve_last q p k)

pub convolve_mod : {n : ℕ} {p p' q q' : ℕ → ℕ} → ((i : ℕ) → Cong n (p i) (p' i)) → ((i : ℕ) → Cong n (q i) (q' i)) → (k : ℕ)
    → Cong n (convolve p q k) (convolve p' q' k)
convolve_mod {n} a b k = total_mod n (suc k) _ _ (λ i l. c_mul (a i) (b (k - i)))

pub convolve_constant : (c : ℕ) (g : ℕ → ℕ) (k : ℕ) → convolve (constant c) g k ≡ c * g k
convolve_constant c g zero = convolve_zero (constant c) g
convolve_constant c g (suc k) =
    convolve_suc (constant c) g k
    ∙ ap (λ (x : ℕ). c * g (suc k) + x) (total_none (suc k) (λ i. 0 * g (k - i)) (λ i l. zero-mul (g (k - i))))
    ∙ add-zero (c * g (suc k))

-- where q is 0 above e, word j + e of the product is word e of that with p from j on
pub convolve_shift : (j e : ℕ) (p q : ℕ → ℕ) → ((i : ℕ) → e < i → q i ≡ 0) → convolve p q (j + e) ≡ convolve (λ (i : ℕ). p (j + i)) q e
convolve_shift zero e p q h = ap (convolve p q) (zero-add e) ∙ total_cong (suc e) _ _
    (λ i l. ap (λ (x : ℕ). p x * q (e - i)) (sym (zero-add i)))
convolve_shift (suc j) e p q h =
    ap (convolve p q) (suc-add j e)
    ∙ convolve_suc p q (j + e)
    ∙ ap₂ (λ (x y : ℕ). x + y) (ap (λ (x : ℕ). p 0 * x) (h (suc (j + e)) (omega arith)) ∙ mul-zero (p 0))
    (convolve_shift j e (λ i. p (suc i)) q h)
    ∙ zero-add _
    ∙ total_cong (suc e) _ _ (λ i l. ap (λ (x : ℕ). p x * q (e - i)) (sym (suc-add j i)))

-- the lowest coefficient, taken out
pub convolve_first : (p p' q : ℕ → ℕ) (e : ℕ) → p' 0 ≡ 0 → ((i : ℕ) → p (suc i) ≡ p' (suc i)) → convolve p q e ≡ p 0 * q e + convolve p' q e
convolve_first p p' q zero z h =
    convolve_zero p q
    ∙ sym (ap (λ (x : ℕ). p 0 * q 0 + x) (convolve_zero p' q ∙ ap (λ (x : ℕ). x * q 0) z ∙ zero-mul (q 0)) ∙ add-zero (p 0 * q 0))
convolve_first p p' q (suc e) z h =
    convolve_suc p q e
    ∙ ap (λ (x : ℕ). p 0 * q (suc e) + x)
    (total_cong (suc e) _ _ (λ i l. ap (λ (x : ℕ). x * q (e - i)) (h i))
    ∙ sym (convolve_suc p' q e ∙ ap (λ (x : ℕ). x + convolve (λ i. p' (suc i)) q e)
    (ap (λ (x : ℕ). x * q (suc e)) z ∙ zero-mul (q (suc e))) ∙ zero-add _))

pub convolve_out : (d e : ℕ) (p q : ℕ → ℕ) → ((i : ℕ) → d < i → p i ≡ 0) → ((i : ℕ) → e < i → q i ≡ 0) → (k : ℕ) → d + e < k
    → convolve p q k ≡ 0
convolve_out d e p q hp hq k l = total_none (suc k) _ (λ i b. term i (dec_lt d i))
  where
    term : (i : ℕ) → Dec (d < i) → p i * q (k - i) ≡ 0
    term i (yes h) = ap (λ (x : ℕ). x * q (k - i)) (hp i h) ∙ zero-mul (q (k - i))
    term i (no h) = ap (λ (x : ℕ). p i * x) (hq (k - i) (omega arith)) ∙ mul-zero (p i)

-- ---- zeros

pub zeros_at : (m k : ℕ) → coef (replicate m 0) k ≡ 0
zeros_at zero k = refl
zeros_at (suc m) zero = refl
zeros_at (suc m) (suc k) = zeros_at m k
