-- Held residues decoded: the laws, for every odd n.
--
--   leave_enter, enter_leave   a residue that is held and decoded is what it was, and one that is decoded and held
--   plain_is                   the residue whose multiple by 2^32 is t
--   plain_same, plain_none, plain_zero, plain_negative, plain_product, plain_three
--                              what equal words stand for; 0; a word that stands for 0; -p; a product of held words; a sum with multipliers
--   plain_gcd                  a word and what it stands for have the same greatest common divisor with n
--   radix_back, one_powers     2^32 has an inverse, and so have its powers
use Rattle.std.specs.Prelude.{◌≡◌, refl, ℕ, zero, suc, ◌+◌, ◌-◌, ◌*◌, ◌/◌, ◌%◌, ◌^◌, ◌<◌, ◌≤◌}
use Rattle.std.proofs.Common.{sym, ap₂, ◌∙◌, mod-eq_of_lt, mul-one, mul_comm, mul_assoc, zero-mul, pow-suc, arith}
use Rattle.std.proofs.Math.Path.{ap}
use Rattle.std.specs.Int.{◌∣◌}
use Rattle.std.proofs.Math.Nat.{mod-lt, mod_self, zero-mod, pow-zero, dvd-mul_right, dvd_trans}
use Rattle.law_numbers.specs.Congruence.{Cong, c_refl, c_sym, c_trans, c_eq, c_mod, c_add, c_mul, c_cancel, c_dvd, c_zero, dvd_c, ring}
use Rattle.law_numbers.specs.Divisors.{IsGcd}
use Rattle.montgomery.specs.Held.{held, plain}

-- the powers of two numbers whose product is 1
pub one_powers : {n : ℕ} (a b : ℕ) → Cong n (a * b) 1 → (k : ℕ) → Cong n (a ^ k * b ^ k) 1
one_powers {n} a b c zero = c_eq (ap₂ ◌*◌ (pow-zero a) (pow-zero b) ∙ mul-one 1)
one_powers {n} a b c (suc k) =
    c_trans (c_eq (ap₂ ◌*◌ (pow-suc a k) (pow-suc b k) ∙ swap (a ^ k) (b ^ k)))
    (c_trans (c_mul (one_powers a b c k) c) (c_eq (mul-one 1)))
  where
    swap : (x y : ℕ) → x * a * (y * b) ≡ x * y * (a * b)
    swap x y = simp ring

-- 2^32 has an inverse
pub radix_back : (n : ℕ) → n % 2 ≡ 1 → Cong n (4294967296 * (n / 2 + 1) ^ 32) 1
radix_back n odd = one_powers 2 (n / 2 + 1) twice 32
  where
    twice : Cong n (2 * (n / 2 + 1)) 1
    twice =
        let e : 2 * (n / 2 + 1) ≡ n + 1 = omega arith in
        c_trans (c_eq e) (c_trans (c_add (record { same = mod_self n ∙ sym (zero-mod n) }) c_refl) (c_eq {b = 1} (omega arith)))

module _ (n : ℕ) (odd : n % 2 ≡ 1) where
  pos : 0 < n
  pos = omega arith

  pub plain_below : (x : ℕ) → plain n x < n
  unfolding plain
  plain_below x = mod-lt _ pos

  pub held_below : (a : ℕ) → held n a < n
  unfolding held
  held_below a = mod-lt _ pos

  pub held_cong : (a : ℕ) → Cong n (held n a) (a * 4294967296)
  unfolding held
  held_cong a = c_mod _

  plain_cong : (x : ℕ) → Cong n (plain n x) (x * (n / 2 + 1) ^ 32)
  unfolding plain
  plain_cong x = c_mod _

  -- what x stands for, times 2^32, is x
  pub plain_times : (x : ℕ) → Cong n (plain n x * 4294967296) x
  plain_times x =
      c_trans (c_mul (plain_cong x) c_refl)
      (c_trans (c_eq (mul_assoc x ((n / 2 + 1) ^ 32) 4294967296))
      (c_trans (c_mul (c_refl {a = x}) (c_trans (c_eq (mul_comm ((n / 2 + 1) ^ 32) 4294967296)) (radix_back n odd))) (c_eq (mul-one x))))

  -- 2^32 may be taken away
  pub radix_cancel : {x y : ℕ} → Cong n (x * 4294967296) (y * 4294967296) → Cong n x y
  radix_cancel {x} {y} c = c_trans (c_sym (back x)) (c_trans (c_mul c c_refl) (back y))
    where
      back : (z : ℕ) → Cong n (z * 4294967296 * (n / 2 + 1) ^ 32) z
      back z = c_trans (c_eq (mul_assoc z 4294967296 ((n / 2 + 1) ^ 32)))
          (c_trans (c_mul (c_refl {a = z}) (radix_back n odd)) (c_eq (mul-one z)))

  pub plain_is : {r t : ℕ} → r < n → Cong n (r * 4294967296) t → r ≡ plain n t
  plain_is {r} {t} l c =
      sym (mod-eq_of_lt l) ∙ (radix_cancel (c_trans c (c_sym (plain_times t)))).same ∙ mod-eq_of_lt (plain_below t)

  -- a product with a held multiplier, decoded
  pub plain_mul : (x y : ℕ) → Cong n (plain n (x * y)) (plain n x * y)
  plain_mul x y =
      radix_cancel (c_trans (plain_times (x * y)) (c_sym (c_trans (c_eq (swap (plain n x))) (c_mul (plain_times x) c_refl))))
    where
      swap : (p : ℕ) → p * y * 4294967296 ≡ p * 4294967296 * y
      swap p = simp ring

  pub plain_add : (x y : ℕ) → Cong n (plain n (x + y)) (plain n x + plain n y)
  plain_add x y =
      radix_cancel (c_trans (plain_times (x + y))
      (c_sym (c_trans (c_eq (spread (plain n x) (plain n y))) (c_add (plain_times x) (plain_times y)))))
    where
      spread : (p q : ℕ) → (p + q) * 4294967296 ≡ p * 4294967296 + q * 4294967296
      spread p q = omega arith

  -- ---- the laws

  pub leave_enter : (a : ℕ) → plain n (held n a) ≡ a % n
  leave_enter a = sym (plain_is (mod-lt a pos) (c_trans (c_mul (c_mod a) c_refl) (c_sym (held_cong a))))

  pub enter_leave : (x : ℕ) → held n (plain n x) ≡ x % n
  unfolding held
  enter_leave x = (plain_times x).same

  -- ---- what words stand for

  pub plain_same : {x y : ℕ} → Cong n x y → plain n x ≡ plain n y
  unfolding plain
  plain_same c = (c_mul c (c_refl {a = (n / 2 + 1) ^ 32})).same

  pub plain_none : plain n 0 ≡ 0
  unfolding plain
  plain_none = ap (λ (z : ℕ). z % n) (zero-mul ((n / 2 + 1) ^ 32)) ∙ zero-mod n

  pub plain_zero : (x : ℕ) → x < n → plain n x ≡ 0 → x ≡ 0
  plain_zero x l e =
      sym (mod-eq_of_lt l)
      ∙ (c_trans (c_sym (plain_times x)) (c_eq (ap (λ (z : ℕ). z * 4294967296) e ∙ zero-mul 4294967296))).same ∙ zero-mod n

  pub plain_negative : (p : ℕ) → p ≤ n → Cong n (plain n (n - p)) (n - plain n p)
  plain_negative p l =
      c_cancel (plain n p) pos
      (c_trans (c_sym (plain_add (n - p) p))
      (c_trans (c_eq (plain_same (c_trans (c_eq whole) none) ∙ plain_none))
      (c_trans (c_sym none) (c_eq (sym (back (plain n p) (plain_below p)))))))
    where
      none : Cong n n 0
      none = record { same = mod_self n ∙ sym (zero-mod n) }

      whole : n - p + p ≡ n
      whole = omega arith

      back : (q : ℕ) → q < n → n - q + q ≡ n
      back q h = omega arith

  pub plain_product : (x y : ℕ) → plain n (plain n (x * y)) ≡ (plain n x * plain n y) % n
  plain_product x y =
      plain_same (c_trans (plain_mul x y) (c_eq (mul_comm (plain n x) y)))
      ∙ sym (mod-eq_of_lt (plain_below (y * plain n x)))
      ∙ (c_trans (plain_mul y (plain n x)) (c_eq (mul_comm (plain n y) (plain n x)))).same

  pub plain_three : (l x c y e z : ℕ) → plain n ((l * x + c * y + e * z) % n) ≡ (l * plain n x + c * plain n y + e * plain n z) % n
  plain_three l x c y e z =
      plain_same (c_mod (l * x + c * y + e * z))
      ∙ sym (mod-eq_of_lt (plain_below (l * x + c * y + e * z)))
      ∙ (c_trans (plain_add (l * x + c * y) (e * z))
      (c_add (c_trans (plain_add (l * x) (c * y)) (c_add (one l x) (one c y))) (one e z))).same
    where
      one : (k v : ℕ) → Cong n (plain n (k * v)) (k * plain n v)
      one k v = c_trans (c_eq (ap (plain n) (mul_comm k v))) (c_trans (plain_mul v k) (c_eq (mul_comm (plain n v) k)))

  pub plain_gcd : {x g : ℕ} → IsGcd n x g → IsGcd n (plain n x) g
  plain_gcd {x} {g} h = record { left = h.left; right = down g h.left h.right; most = λ d p q. h.most d p (up d p q) }
    where
      down : (d : ℕ) → d ∣ n → d ∣ x → d ∣ plain n x
      down d p q = dvd_c (c_trans (c_dvd p (plain_cong x)) (c_zero (dvd_trans d q (dvd-mul_right x ((n / 2 + 1) ^ 32)))))

      up : (d : ℕ) → d ∣ n → d ∣ plain n x → d ∣ x
      up d p q = dvd_c (c_trans (c_dvd p (c_sym (plain_times x))) (c_zero (dvd_trans d q (dvd-mul_right (plain n x) 4294967296))))
