-- What a round of `product_word_by` keeps: h 2^64 + x is the sum of the terms before place i.
--
--   Summed k i x h f g            that, with the places that are left
--   summed_start, summed_step, summed_end    at the start, a term more, and at the end
--   carry_some, carry_none        a sum of two that passes 64 bits, and one that does not
--   summed_none, none             no place where words meet; no words
--   products, terms               the rules
use Rattle.std.proofs.Common.{◌≡◌, ℕ, suc, ◌+◌, ◌-◌, ◌*◌, ◌%◌, ◌^◌, ◌<◌, ◌≤◌, min, List, length, sym, refl, ap, ◌∙◌, ap₂, mul-zero, zero-mul, add-one, arith, w32, w64, Fits, rules}
use native.Mathlib.Nat.{zero-mod}
use lib.ListN.{get_or-eq_default}
use Rattle.law_words.specs.Digits as digits
use Rattle.reduction.proofs.Reciprocals.{modulo}
use Rattle.definitions.specs.Polynomials.{coef, total, convolve}
use Rattle.convolution.specs.Carries.{wide, Carry}
use Rattle.convolution.specs.Sums.{total_last, total_none, total_more}

pub record Summed (k i x h : ℕ) (f g : List ℕ) : Type 0 where
  pub most : i ≤ k + 1
  pub least : k + 1 ≤ i + length g
  pub count : h ≤ i
  pub sum : wide h x ≡ total i (λ (j : ℕ). coef f j * coef g (k - j))

beyond : (f : List ℕ) (k : ℕ) → length f ≤ k → coef f k ≡ 0
beyond f k l = get_or-eq_default f 0 l

-- nothing stands before the first place
unmet : (k i : ℕ) (f g : List ℕ) → i ≡ k + 1 - length g → total i (λ (j : ℕ). coef f j * coef g (k - j)) ≡ 0
unmet k i f g e = total_none i _ (λ j l. ap (λ (x : ℕ). coef f j * x) (beyond g (k - j) (omega arith)) ∙ mul-zero (coef f j))

-- the terms from the end of f on are 0
pub rest : (k i : ℕ) (f g : List ℕ) → i ≤ k + 1 → min (k + 1) (length f) ≤ i → convolve (coef f) (coef g) k
    ≡ total i (λ (j : ℕ). coef f j * coef g (k - j))
rest k i f g b l =
    total_more i (suc k) (λ (j : ℕ). coef f j * coef g (k - j)) (omega arith)
    (λ j p q. ap (λ (z : ℕ). z * coef g (k - j)) (beyond f j (omega arith)) ∙ zero-mul (coef g (k - j)))

pub summed_none : (n k i l : ℕ) (f g : List ℕ) → i ≡ k + 1 - length g → l ≡ min (k + 1) (length f) → l ≤ i → (length g ≡ 0 → ⊥)
    → 0 ≡ convolve (coef f) (coef g) k % n
summed_none n k i l f g e el h ne =
    sym (ap (λ (x : ℕ). x % n) (rest k i f g (omega arith) (omega arith) ∙ unmet k i f g e) ∙ zero-mod n)

-- without words, no sum
pub none : (n k : ℕ) (f g : List ℕ) → length g ≡ 0 → 0 ≡ convolve (coef f) (coef g) k % n
none n k f g e = sym (ap (λ (x : ℕ). x % n) (total_none (suc k) _
    (λ y l. ap (λ (x : ℕ). coef f y * x) (beyond g (k - y) (omega arith)) ∙ mul-zero (coef f y))) ∙ zero-mod n)

-- a sum of two numbers of 64 bits, and the carry
module _ {x p s : ℕ} (e : s ≡ (x + p) % 2 ^ 64) (lx : Fits w64 x) (lp : Fits w64 p) where
  pub carry_some : s < p → Carry x p 1
  unfolding wide
  carry_some l = record { is = omega (arith, lx.fits, lp.fits); most = omega arith }

  pub carry_none : p ≤ s → Carry x p 0
  unfolding wide
  carry_none l = record { is = omega (arith, lx.fits, lp.fits); most = omega arith }

pub product_fits : {a b : ℕ} → Fits w32 a → Fits w32 b → Fits w64 (a * b)
product_fits p q = record { fits = digits.product_fits p.fits q.fits }

wide_none : wide 0 0 ≡ 0
unfolding wide
wide_none = refl

wide_step : (h x r p z : ℕ) → Carry x p r → z ≡ (x + p) % 2 ^ 64 → wide (h + r) z ≡ wide h x + p
unfolding wide
wide_step h x r p z c e = omega (arith, c.is, e)

pub summed_start : {k i : ℕ} {f g : List ℕ} → i ≡ k + 1 - length g → (length g ≡ 0 → ⊥) → Summed k i 0 0 f g
summed_start {k} {i} {f} {g} e ne =
    record { most = omega arith; least = omega arith; count = omega arith; sum = wide_none ∙ sym (unmet k i f g e) }

last_term : (i : ℕ) (F : ℕ → ℕ) → total (i + 1) F ≡ total i F + F i
last_term i F = ap (λ (j : ℕ). total j F) (add-one i) ∙ total_last i F

-- a term more
pub summed_step : {k i x h r x' i' h' l : ℕ} {f g : List ℕ} (p : ℕ) → Summed k i x h f g → p ≡ coef f i * coef g (k - i) → Carry x p r
    → x' ≡ (x + p) % 2 ^ 64 → l ≡ min (k + 1) (length f) → i < l → i' ≡ i + 1 → h' ≡ h + r → Summed k i' x' h' f g
summed_step {k} {i} {x} {h} {r} {x'} {f = f} {g = g} p s ep c ex el b ei eh =
    let F : ℕ → ℕ = λ (j : ℕ). coef f j * coef g (k - j) in
    rw (ei, eh) (record {
      most = omega arith;
      least = omega (arith, s.least);
      count = omega (arith, s.count, c.most);
      sum = wide_step h x r p x' c ex ∙ ap₂ (λ (a b : ℕ). a + b) s.sum ep ∙ sym (last_term i F);
    })

pub summed_end : {k i x h r l : ℕ} {f g : List ℕ} (n : ℕ) → Summed k i x h f g → r ≡ (h * 2 ^ 64 + x) % n → l ≡ min (k + 1) (length f)
    → l ≤ i → r ≡ convolve (coef f) (coef g) k % n
unfolding wide
summed_end {k} {i} {f = f} {g = g} n s er el b = er ∙ ap (λ (z : ℕ). z % n) (s.sum ∙ sym (rest k i f g s.most (omega arith)))

pub same_modulus : {a n r : ℕ} (x : ℕ) → r ≡ x % a → a ≡ n → r ≡ x % n
same_modulus x e h = modulo x h e

pub ruleset products = (rules, none, summed_none, product_fits, carry_some, carry_none, same_modulus)

pub ruleset terms = (products, summed_start, summed_step, summed_end)
