-- Primes: each number above 1 has one, its least divisor above 1; the divisors of n are climbed from 1 to n by primes.
--
--   Prime p            p is above 1 and has no divisor above 1 but itself
--   prime_of           a prime that divides n
--   rise, climb        a divisor m of n that is not n has a prime p with p m a divisor of n; what holds at 1 and is kept so holds at n
--   prime_inverse      what p does not divide has an inverse modulo p
--   prime_divides      p divides a factor if it divides a product
--   prime_root         p divides a if it divides a power of a
use Rattle.std.specs.Prelude.{◌≡◌, ◌⊎◌, ℕ, zero, suc, ◌+◌, ◌-◌, ◌*◌, ◌/◌, ◌^◌, ◌≤◌, ◌<◌}
use Rattle.std.proofs.Common.{sym, subst, ◌∙◌, inl, inr, ⊎_elim, mul_comm, mul-le-mul_right, mul-zero, mul-one, eq-or-lt_of_le, le_antisymm, arith}
use Rattle.std.specs.Int.{◌∣◌}
use Rattle.std.proofs.Math.Nat.{dvd_refl, dvd_trans, le_of_dvd, pos_of_dvd_of_pos, mul-div_cancel', mul-dvd-mul, one-dvd}
use Rattle.std.proofs.Math.Decide.{dec_dvd, ℕ_discrete}
use Rattle.definitions.specs.Residues.{IsUnit, Coprime}
use Rattle.law_numbers.specs.Units.{unit_of_coprime}
use Rattle.law_numbers.specs.Coprimality.{coprime_divides, coprime_power}

pub record Prime (p : ℕ) : Type 0 where
  pub above : 1 < p
  pub only : (d : ℕ) → 1 < d → d ∣ p → d ≡ p

pub record PrimeOf (n : ℕ) : Type 0 where
  pub p : ℕ
  pub prime : Prime p
  pub divides : p ∣ n

-- no divisor of n lies above 1 and below k
record NoneBelow (n k : ℕ) : Type 0 where
  pub none : (d : ℕ) → 1 < d → d ∣ n → k ≤ d

look : (n k : ℕ) → 1 < k → NoneBelow n k → (NoneBelow n (suc k) → PrimeOf n) → Dec (k ∣ n) → PrimeOf n
look n k l h ih (yes v) = record {
  p = k;
  prime = record { above = l; only = λ d b u. le_antisymm (le_of_dvd (omega arith) u) (h.none d b (dvd_trans d u v)) };
  divides = v;
}
look n k l h ih (no v) =
    ih (record { none = λ d b u. ⊎_elim (λ e. absurd (v (subst (λ (x : ℕ). x ∣ n) (sym e) u))) (λ q. q) (eq-or-lt_of_le (h.none d b u)) })

least : (n c k : ℕ) → k + c ≡ n → 1 < k → NoneBelow n k → PrimeOf n
least n zero k e l h = record {
  p = n;
  prime = record { above = omega arith; only = λ d b v. le_antisymm (le_of_dvd (omega arith) v) (omega (arith, h.none d b v)) };
  divides = dvd_refl n;
}
least n (suc c) k e l h = look n k l h (least n c (suc k) (omega arith) (omega arith)) (dec_dvd k n)

-- the least divisor above 1 is a prime
pub prime_of : (n : ℕ) → 1 < n → PrimeOf n
prime_of n l = least n (n - 2) 2 (omega arith) (omega arith) (record { none = λ d b u. b })

-- a divisor m of n that is not n is taken up by a prime
pub record Rise (n m : ℕ) : Type 0 where
  pub p : ℕ
  pub prime : Prime p
  pub divides : p * m ∣ n

pub rise : (n m : ℕ) → 0 < n → m ∣ n → (m ≡ n → ⊥) → Rise n m
rise n m pos v ne =
    let q : ℕ = n / m in
    let e : m * q ≡ n = mul-div_cancel' m v in
    let f = prime_of q (above q e) in
    record {
      p = f.p;
      prime = f.prime;
      divides = subst (λ (x : ℕ). f.p * m ∣ x) (mul_comm q m ∙ e) (mul-dvd-mul f.p m f.divides (dvd_refl m));
    }
  where
    above : (q : ℕ) → m * q ≡ n → 1 < q
    above zero e = absurd (let z = mul-zero m in omega arith)
    above (suc zero) e = absurd (ne (sym (mul-one m) ∙ e))
    above (suc (suc q)) e = omega arith

pub rise_more : {n m : ℕ} → 0 < m → (r : Rise n m) → m < r.p * m
rise_more {n} {m} pos r = omega (arith, mul-le-mul_right m r.prime.above)

-- what holds at 1 and is kept by primes holds at n
module _ (n : ℕ) (pos : 0 < n) (P : ℕ → Type 0) (step : (m p : ℕ) → Prime p → p * m ∣ n → P m → P (p * m)) where
  onward : (c m : ℕ) → m ∣ n → 0 < m → n ≤ m + suc c → P m → ((m' : ℕ) → m' ∣ n → 0 < m' → n ≤ m' + c → P m' → P n) → Dec (m ≡ n) → P n
  onward c m v l b x ih (yes e) = subst P e x
  onward c m v l b x ih (no ne) =
      let r = rise n m pos v ne in
      let more : m < r.p * m = rise_more l r in
      ih (r.p * m) r.divides (omega arith) (omega arith) (step m r.p r.prime r.divides x)

  up : (c m : ℕ) → m ∣ n → 0 < m → n ≤ m + c → P m → P n
  up zero m v l b x = subst P (le_antisymm (le_of_dvd pos v) (omega arith)) x
  up (suc c) m v l b x = onward c m v l b x (up c) (ℕ_discrete m n)

  pub climb : P 1 → P n
  climb one = up n 1 (one-dvd n) (omega arith) (omega arith) one

-- ---- a prime and the numbers it does not divide

module _ {p : ℕ} (pr : Prime p) where
  pub prime_coprime : (a : ℕ) → (p ∣ a → ⊥) → Coprime p a
  prime_coprime a h = record { only = λ k u v. pick k u v (ℕ_discrete k 1) }
    where
      pick : (k : ℕ) → k ∣ p → k ∣ a → Dec (k ≡ 1) → k ≡ 1
      pick k u v (yes e) = e
      pick k u v (no e) =
          let big = pr.above in
          let pos : 0 < k = pos_of_dvd_of_pos u (omega arith) in
          absurd (h (subst (λ (x : ℕ). x ∣ a) (pr.only k (omega arith) u) v))

  pub prime_inverse : (a : ℕ) → (p ∣ a → ⊥) → IsUnit p a
  prime_inverse a h = let big = pr.above in unit_of_coprime (omega arith) (prime_coprime a h)

  pub prime_divides : (a b : ℕ) → p ∣ a * b → (p ∣ a) ⊎ (p ∣ b)
  prime_divides a b v = pick (dec_dvd p a)
    where
      pick : Dec (p ∣ a) → (p ∣ a) ⊎ (p ∣ b)
      pick (yes d) = inl d
      pick (no d) = let big = pr.above in inr (coprime_divides b (omega arith) (prime_coprime a d) v)

  pub prime_root : (a k : ℕ) → p ∣ a ^ k → p ∣ a
  prime_root a k v = pick (dec_dvd p a)
    where
      pick : Dec (p ∣ a) → p ∣ a
      pick (yes d) = d
      pick (no d) =
          let big = pr.above in
          let one : p ≡ 1 = (coprime_power (omega arith) (prime_coprime a d) k).only p (dvd_refl p) v in
          absurd (omega arith)
