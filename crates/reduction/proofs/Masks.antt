-- Powers of two: the test by the bits of n and n - 1, and a sum of products by a mask.
--
--   power_in, power_found    a number that has no bit of the number before it is a power of two
--   power_missed             a number that has one is none
--   mask_is                  the low bits of a number are its remainder
--   masks                    the rules
use Rattle.std.proofs.Common.{◌≡◌, ℕ, zero, suc, ◌+◌, ◌-◌, ◌*◌, ◌/◌, ◌%◌, ◌^◌, ◌<◌, ◌≤◌, min, sym, ap, ◌∙◌, subst, pow-suc, arith, pow-add, rules}
use Prim.Native.Nat.{◌∣◌}
use native.Mathlib.Nat.{dvd-mul_right, pow-zero, mod-mod_of_dvd, mod_self}
use native.Mathlib.Decide.{ℕ_discrete}
use lib.Bits.{bit_and, and_step, and_self, and_mask, and_le_r}
use Rattle.law_numbers.specs.Congruence.{Cong, c_refl, c_add}
use Rattle.law_words.specs.Digits.{product_fits}
use Rattle.reduction.specs.Powers.{PowerIn, PowerOfTwo, NoPower}

record Found (k n : ℕ) : Type 0 where
  exponent : ℕ
  below : exponent < k
  is : n ≡ 2 ^ exponent

find : (k n : ℕ) → 1 ≤ n → n < 2 ^ k → bit_and n (n - 1) ≡ 0 → Found k n
find zero n pos h e = absurd (omega (arith, pow-zero 2))
find (suc k) n pos h e = go (find k (n / 2)) (ℕ_discrete (n % 2) 0)
  where
    step : bit_and (n / 2) ((n - 1) / 2) * 2 + min (n % 2) ((n - 1) % 2) ≡ 0
    step = sym (and_step n (n - 1)) ∙ e

    less : bit_and (n / 2) ((n - 1) / 2) ≡ 0
    less = omega (arith, step)

    twice : Found k (n / 2) → n % 2 ≡ 0 → Found (suc k) n
    twice f even = record {
      exponent = suc f.exponent;
      below = omega (arith, f.below);
      is = omega (arith, f.is, pow-suc 2 f.exponent);
    }

    one : n / 2 ≡ 0 → Found (suc k) n
    one z = record { exponent = 0; below = omega arith; is = omega (arith, pow-zero 2) }

    go : (1 ≤ n / 2 → n / 2 < 2 ^ k → bit_and (n / 2) (n / 2 - 1) ≡ 0 → Found k (n / 2)) → Dec (n % 2 ≡ 0) → Found (suc k) n
    go next (yes even) =
        let half : (n - 1) / 2 ≡ n / 2 - 1 = omega arith in
        twice (next (omega arith) (omega (arith, pow-suc 2 k)) (ap (bit_and (n / 2)) (sym half) ∙ less)) even
    go next (no odd) =
        let half : (n - 1) / 2 ≡ n / 2 = omega arith in
        one (sym (and_self (n / 2)) ∙ ap (bit_and (n / 2)) (sym half) ∙ less)

pub power_in : (w n : ℕ) → 1 ≤ n → n < 2 ^ w → bit_and n (n - 1) ≡ 0 → PowerIn (2 ^ w) n
power_in w n pos small e = record {
  pos = pos;
  exponent = f.exponent;
  is = f.is;
  divides = subst (λ (x : ℕ). x ∣ 2 ^ w) (sym f.is)
      (subst (λ (x : ℕ). 2 ^ f.exponent ∣ x) (sym (pow-add 2 f.exponent (w - f.exponent)) ∙ ap (λ (x : ℕ). 2 ^ x) whole)
      (dvd-mul_right (2 ^ f.exponent) (2 ^ (w - f.exponent))));
}
  where
    f : Found w n
    f = find w n pos small e

    whole : f.exponent + (w - f.exponent) ≡ w
    whole = omega (arith, f.below)

pub power_found : (n : ℕ) → 1 ≤ n → n < 2 ^ 32 → bit_and n (n - 1) ≡ 0 → PowerOfTwo n
power_found n = power_in 32 n

pub power_missed : (n : ℕ) → (bit_and n (n - 1) ≡ 0 → ⊥) → NoPower n
power_missed n some = record {
  none = λ k e. some (ap (λ (x : ℕ). bit_and n (x - 1)) e ∙ and_mask n k ∙ ap (λ (x : ℕ). x % 2 ^ k) e ∙ mod_self (2 ^ k));
}

-- the low bits of a number
pub mask_is : {B n : ℕ} → PowerIn B n → (t : ℕ) → bit_and t (n - 1) ≡ t % n
mask_is p t = rw p.is (and_mask t p.exponent)

pub mask_fits : (n t k : ℕ) → PowerOfTwo n → n < 2 ^ 32 → k ≤ n → bit_and t k < 2 ^ 32
mask_fits n t k p h l = omega (arith, and_le_r t k)

pub less_most : (n j : ℕ) → n - j ≤ n
less_most n j = omega arith

-- the low words of two products, and a number
pub masked_is : (n x p q r : ℕ) → PowerOfTwo n → r ≡ bit_and (x + p % 4294967296 + q % 4294967296) (n - 1) → r ≡ (x + p + q) % n
masked_is n x p q r pow e = e ∙ mask_is pow _ ∙ (c_add (c_add (c_refl {a = x}) (low p)) (low q)).same
  where
    low : (y : ℕ) → Cong n (y % 4294967296) y
    low y = record { same = mod-mod_of_dvd n y pow.divides }

pub ruleset masks = (rules, product_fits, power_found, power_missed, mask_fits, less_most, masked_is)
