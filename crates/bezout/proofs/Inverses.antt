-- Inverses modulo powers of two, by Newton's steps.
--
--   newton, four_steps    a step; four of them, from a itself, make an inverse modulo 2^32
--   inverse_cofactor      the low bits of an inverse modulo B are one modulo each power of two that divides B
--   inverses              the rules
use mathlib.Core.Bool.{Bool, true}
use mathlib.Core.Path.{◌≡◌, refl, subst, ◌∙◌}
use Prim.Native.Nat.{ℕ, ◌-◌, ◌*◌, ◌%◌, ◌^◌, ◌<◌, ◌≤◌, ◌∣◌, ◌+◌}
use native.Mathlib.Nat.{dvd-mul_right, dvd_refl, mul_comm, dvd_trans, one-dvd, mod-lt, le_of_lt}
use native.Mathlib.Omega.{arith}
use borrow.Author.Rules.{rules}
use lib.Bits.{bit_and}
use Rattle.law_numbers.specs.Congruence.{Cong, c_refl, c_sym, c_trans, c_eq, c_mul, c_mod, c_dvd, c_zero, dvd_c}
use Rattle.law_numbers.specs.Divisors.{GcdCofactor}
use Rattle.law_words.specs.Digits.{product_fits}
use Rattle.reduction.specs.Powers.{PowerIn, PowerTest}
use Rattle.reduction.specs.Newton.{Refined, refined, odd_square}
use Rattle.reduction.proofs.Masks.{mask_is}

pub newton : (a m r : ℕ) → r ≡ (m * ((4294967298 - (a * m) % 4294967296) % 4294967296)) % 4294967296 → Refined 4294967296 a m r
newton a m r e = refined 4294967296 a m ((a * m) % 4294967296) ((4294967298 - (a * m) % 4294967296) % 4294967296) r refl (rotated (a * m)) e
  where
    rotated : (x : ℕ) → ((4294967298 - x % 4294967296) % 4294967296 + x % 4294967296) % 4294967296 ≡ 2
    rotated x = omega arith

pub low_fits : (m y : ℕ) → m < 2 ^ 32 → m * (y % 4294967296) < 2 ^ 64
low_fits m y h = product_fits h (omega arith)

pub four_steps : {a m₁ m₂ m₃ m₄ : ℕ} → Refined 4294967296 a a m₁ → Refined 4294967296 a m₁ m₂ → Refined 4294967296 a m₂ m₃
    → Refined 4294967296 a m₃ m₄ → a % 2 ≡ 1 → (a * m₄) % 4294967296 ≡ 1
four_steps {a} {m₁} {m₂} {m₃} {m₄} b c d e odd =
    (e.at 16777216 4294967296 (omega arith) (omega arith) (dvd-mul_right 16777216 256) (dvd_refl 4294967296)
    (dvd-mul_right 4294967296 65536)
    (d.at 4096 16777216 (omega arith) (omega arith) (dvd-mul_right 4096 1048576) (dvd-mul_right 16777216 256) (dvd_refl 16777216)
    (c.at 64 4096 (omega arith) (omega arith) (dvd-mul_right 64 67108864) (dvd-mul_right 4096 1048576) (dvd_refl 4096)
    (b.at 8 64 (omega arith) (omega arith) (dvd-mul_right 8 536870912) (dvd-mul_right 64 67108864) (dvd_refl 64)
    (odd_square a odd))))).same

pub inverse_cofactor : {B n a s : ℕ} (r : ℕ) → PowerIn B n → (a * r) % B ≡ 1 → s ≡ bit_and r (n - 1) → GcdCofactor n a 1 s
inverse_cofactor {B} {n} {a} {s} r p e es = record {
  gcd = record {
    left = one-dvd n;
    right = one-dvd a;
    most = λ d dn da. dvd_c (c_trans (c_sym (c_dvd dn one)) (c_zero (dvd_trans d da (dvd-mul_right a r))));
  };
  at_most = rw low (le_of_lt (mod-lt r p.pos));
  bezout = (c_trans (c_mul (c_trans (c_eq low) (c_mod r)) (c_refl {a = a})) (c_trans (c_eq (mul_comm r a)) one)).same;
}
  where
    low : s ≡ r % n
    low = es ∙ mask_is p r

    one : Cong n (a * r) 1
    one = c_dvd p.divides (c_trans (c_sym (c_mod (a * r))) (c_eq e))

pub power_cofactor : {n a s : ℕ} {t : Bool} (r : ℕ) → t ≡ true → PowerTest n t → (a * r) % 4294967296 ≡ 1 → s ≡ bit_and r (n - 1)
    → GcdCofactor n a 1 s
power_cofactor {n} r et p e es = inverse_cofactor r (subst (PowerTest n) et p) e es

pub ruleset inverses = (rules, product_fits, low_fits, newton, four_steps, power_cofactor)
