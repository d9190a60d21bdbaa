-- Unit times monic: H comes nearer to a divisor of f at each round, and the rounds end.
--
-- Let m be a divisor of n modulo which H divides f, p a prime of n / m. Modulo p the polynomial f is f_t H, so its quotient by H is
-- f_t and the remainder R is 0. Hence Q i R is R modulo p m, and H + i R divides f modulo p m.
--
--   Near n d t k i f h     what the rounds keep of H; k counts them
--   near_start, near_next  it holds at first, and after a round
--   done                   where m is n the remainder is 0
--   quotient_unit, quotient_nilpotent      the quotient is a unit polynomial
use mathlib.Core.Path.{◌≡◌, refl, sym, ap, subst, ◌∙◌}
use mathlib.Core.Logic.{⊎_elim}
use Prim.Native.Nat.{ℕ, zero, suc, ◌+◌, ◌-◌, ◌*◌, ◌≤◌, ◌<◌, ◌∣◌}
use native.Mathlib.Nat.{add-zero, mul-zero, zero-mul, one-mul, mul_comm, mul_assoc, mod-eq-zero_of_dvd, dvd_trans, dvd-mul_right, one-dvd}
use native.Mathlib.Nat.{pos_of_dvd_of_pos, mod-eq_of_lt, dvd-one}
use native.Mathlib.Decide.{ℕ_discrete}
use native.Mathlib.Omega.{arith}
use Rattle.law_numbers.specs.Congruence.{Cong, c_refl, c_sym, c_trans, c_eq, c_add, c_mul, c_dvd, c_zero, dvd_c, c_times, ring}
use Rattle.law_numbers.specs.Primes.{Prime, prime_of, rise, rise_more}
use Rattle.law_numbers.specs.Nilpotents.{InRadical}
use Rattle.law_numbers.specs.Units.{unit_of_coprime}
use Rattle.definitions.specs.Residues.{IsUnit}
use Rattle.definitions.specs.Polynomials.{convolve, constant}
use Rattle.convolution.specs.Sums.{total_mod, convolve_mod, convolve_comm, convolve_constant}
use Rattle.window_division.proofs.DivisionRounds.{convolve_add}
use Rattle.windows.proofs.Leaf.{lt_or_le}
use Rattle.window_factor.proofs.Uniqueness.{MonicAt, DividedBy, one_quotient, one_remainder}

convolve_add_right : (p q r : ℕ → ℕ) (k : ℕ) → convolve p (λ (i : ℕ). q i + r i) k ≡ convolve p q k + convolve p r k
convolve_add_right p q r k =
    convolve_comm p (λ (i : ℕ). q i + r i) k ∙ convolve_add q r p k
    ∙ ap (λ (x : ℕ). x + convolve r p k) (convolve_comm q p k) ∙ ap (λ (x : ℕ). convolve p q k + x) (convolve_comm r p k)

-- what is a unit modulo each prime of n is one modulo n
pub unit_by_primes : (n a i : ℕ) → 1 ≤ n → ((p : ℕ) → Prime p → p ∣ n → Cong p (a * i) 1) → IsUnit n a
unit_by_primes n a i pos h = unit_of_coprime pos (record { only = λ k u v. pick k u v (ℕ_discrete k 1) })
  where
    pick : (k : ℕ) → k ∣ n → k ∣ a → Dec (k ≡ 1) → k ≡ 1
    pick k u v (yes e) = e
    pick k u v (no e) =
        let some : 0 < k = pos_of_dvd_of_pos u pos in
        let r = prime_of k (omega arith) in
        let big = r.prime.above in
        let none : Cong r.p (a * i) 0 = c_trans (c_mul (c_zero (dvd_trans r.p r.divides v)) c_refl) (c_eq (zero-mul i)) in
        let one : r.p ≡ 1 = dvd-one.0 (dvd_c (c_trans (c_sym (h r.p r.prime (dvd_trans r.p r.divides u))) none)) in
        absurd (omega arith)

-- ---- the round

-- H is i f modulo each divisor of n that f's coefficients above t have in common; and H divides f modulo a divisor of n that is more than k
pub record Near (n d t k i : ℕ) (f h : ℕ → ℕ) : Type 0 where
  pub monic : MonicAt n t h
  pub alike : (p : ℕ) → p ∣ n → ((j : ℕ) → t < j → p ∣ f j) → (j : ℕ) → Cong p (h j) (i * f j)
  pub m : ℕ
  pub divides : m ∣ n
  pub more : k < m
  pub q : ℕ → ℕ
  pub top : (j : ℕ) → d < j → q j ≡ 0
  pub exact : DividedBy m f h q (λ (_ : ℕ). 0)

monic_mod : {m n t : ℕ} {h : ℕ → ℕ} → m ∣ n → MonicAt n t h → MonicAt m t h
monic_mod v o = record { lead = c_dvd v o.lead; over = o.over }

divided_mod : {m n : ℕ} {f g q r : ℕ → ℕ} → m ∣ n → DividedBy n f g q r → DividedBy m f g q r
divided_mod v a = record { at = λ k. c_dvd v (a.at k) }

pub near_start : (n d t i : ℕ) (f h : ℕ → ℕ) → MonicAt n t h → ((j : ℕ) → j ≤ t → Cong n (h j) (i * f j)) → Near n d t 0 i f h
near_start n d t i f h o e = record {
  monic = o;
  alike = λ p v a j. ⊎_elim (λ l. c_trans (c_eq (o.over j l)) (c_sym (c_trans (c_mul c_refl (c_zero (a j l))) (c_eq (mul-zero i)))))
      (λ l. c_dvd v (e j l)) (lt_or_le t j);
  m = 1;
  divides = one-dvd n;
  more = omega arith;
  q = λ _. 0;
  top = λ j l. refl;
  exact = record { at = λ k. c_trans (c_zero (one-dvd _)) (c_sym (c_zero (one-dvd (f k)))) };
}

constant_over : (d c j : ℕ) → d < j → constant c j ≡ 0
constant_over d c zero l = absurd (omega arith)
constant_over d c (suc j) l = refl

module _ {n d t k i : ℕ} {f h q r : ℕ → ℕ} (pos : 0 < n) (u : Cong n (i * f t) 1) (near : Near n d t k i f h) (a : DividedBy n f h q r)
    (short : (j : ℕ) → t ≤ j → r j ≡ 0) (top : (j : ℕ) → d < j → q j ≡ 0) where
  -- modulo a divisor that is common to f's coefficients above t, f is f_t H
  module _ (p : ℕ) (v : p ∣ n) (above : (j : ℕ) → t < j → p ∣ f j) where
    flat : DividedBy p f h (constant (f t)) (λ (_ : ℕ). 0)
    flat = record {
      at = λ j.
          c_trans (c_eq (add-zero (convolve (constant (f t)) h j) ∙ convolve_constant (f t) h j))
          (c_trans (c_mul (c_refl {a = f t}) (near.alike p v above j))
          (c_trans (c_eq {b = i * f t * f j} (simp ring)) (c_trans (c_mul (c_dvd v u) (c_refl {a = f j})) (c_eq (one-mul (f j))))));
    }

    pub quotient_at : (j : ℕ) → Cong p (q j) (constant (f t) j)
    quotient_at j = one_quotient {d = d} (pos_of_dvd_of_pos v pos) (monic_mod v near.monic)
        (divided_mod v a) flat short (λ _ _. refl) top (constant_over d (f t)) j

    pub remainder_at : (j : ℕ) → Cong p (r j) 0
    remainder_at j = one_remainder {d = d} (pos_of_dvd_of_pos v pos) (monic_mod v near.monic)
        (divided_mod v a) flat short (λ _ _. refl) top (constant_over d (f t)) j

    pub inverse_at : (j : ℕ) → Cong p (q j * i) (constant 1 j)
    inverse_at j = c_trans (c_mul (quotient_at j) c_refl) (one j)
      where
        one : (j : ℕ) → Cong p (constant (f t) j * i) (constant 1 j)
        one zero = c_trans (c_eq (mul_comm (f t) i)) (c_dvd v u)
        one (suc j) = c_eq (zero-mul i)

  -- the remainder is a multiple of m
  pub remainder_m : (j : ℕ) → near.m ∣ r j
  remainder_m j =
      dvd_c (one_remainder {d = d} (omega (arith, near.more)) (monic_mod near.divides near.monic) (divided_mod near.divides a)
      near.exact
      short (λ _ _. refl) top near.top j)

  -- where m is n, the remainder is 0
  pub done : near.m ≡ n → (j : ℕ) → r j < n → r j ≡ 0
  done e j l = sym (mod-eq_of_lt l) ∙ mod-eq-zero_of_dvd n (subst (λ (x : ℕ). x ∣ r j) e (remainder_m j))

  -- the next round divides f modulo p m
  module _ {h' : ℕ → ℕ} (e : (j : ℕ) → Cong n (h' j) (h j + i * r j)) (p : ℕ) (v : p * near.m ∣ n)
      (above : (j : ℕ) → t < j → p ∣ f j) where
    correction : (j : ℕ) → Cong (p * near.m) (convolve q (λ (s : ℕ). i * r s) j) (r j)
    correction j =
        c_trans
        (total_mod _ (suc j) (λ (s : ℕ). q s * (i * r (j - s))) (λ (s : ℕ). constant 1 s * r (j - s))
        (λ s l. c_trans (c_eq (sym (mul_assoc (q s) i (r (j - s)))))
        (c_times near.m (inverse_at p (dvd_trans p (dvd-mul_right p near.m) v) above s) (r (j - s)) (remainder_m (j - s)))))
        (c_eq (convolve_constant 1 r j ∙ one-mul (r j)))

    pub exact_next : DividedBy (p * near.m) f h' q (λ (_ : ℕ). 0)
    exact_next = record {
      at = λ j.
          c_trans (c_eq (add-zero (convolve q h' j)))
          (c_trans (convolve_mod {p = q} (λ _. c_refl) (λ s. c_dvd v (e s)) j)
          (c_trans (c_eq (convolve_add_right q h (λ (s : ℕ). i * r s) j))
          (c_trans (c_add c_refl (correction j)) (c_dvd v (a.at j)))));
    }

  pub near_next : {h' : ℕ → ℕ} → MonicAt n t h' → ((j : ℕ) → Cong n (h' j) (h j + i * r j)) → ((j : ℕ) → t < j → InRadical n (f j))
      → (near.m ≡ n → ⊥) → Near n d t (k + 1) i f h'
  near_next {h'} o e radical ne =
      let s = rise n near.m pos near.divides ne in
      let less = near.more in
      let big : near.m < s.p * near.m = rise_more (omega arith) s in
      let v : s.p ∣ n = dvd_trans s.p (dvd-mul_right s.p near.m) s.divides in
      record {
        monic = o;
        alike = λ p w above j. c_trans (c_dvd w (e j))
            (c_trans (c_add c_refl (c_mul c_refl (remainder_at p w above j)))
            (c_trans (c_eq (ap (λ (x : ℕ). h j + x) (mul-zero i) ∙ add-zero (h j))) (near.alike p w above j)));
        m = s.p * near.m;
        divides = s.divides;
        more = omega arith;
        q = q;
        top = top;
        exact = exact_next e s.p s.divides (λ j l. (radical j l).at s.p s.prime v);
      }

  -- the quotient: a unit at 0, nilpotent above
  pub quotient_nilpotent : ((j : ℕ) → t < j → InRadical n (f j)) → (j : ℕ) → InRadical n (q (suc j))
  quotient_nilpotent radical j = record { at = λ p pr v. dvd_c (quotient_at p v (λ s l. (radical s l).at p pr v) (suc j)) }

  pub quotient_unit : ((j : ℕ) → t < j → InRadical n (f j)) → IsUnit n (q 0)
  quotient_unit radical = unit_by_primes n (q 0) i pos (λ p pr v. inverse_at p v (λ s l. (radical s l).at p pr v) 0)
