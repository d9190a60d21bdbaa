-- Inverses modulo a base B by Newton's steps. Nothing here knows a word's width.
--
--   Refined B n m r    r is an inverse of n modulo the square of what m is one for, as far as B
--   refined            m (2 - n m) is one
--   odd_square         an odd number is its own inverse modulo 8
use Rattle.std.specs.Prelude.{◌≡◌, ℕ, ◌+◌, ◌*◌, ◌/◌, ◌%◌, ◌<◌, ◌≤◌}
use Rattle.std.proofs.Common.{sym, ap, ◌∙◌, mod-eq_of_lt, div-add-mod', arith}
use Rattle.std.specs.Int.{◌∣◌}
use Rattle.std.proofs.Math.Nat.{dvd-mul_right, dvd_trans}
use Rattle.std.proofs.Math.Decide.{ℕ_discrete}
use Rattle.law_numbers.specs.Congruence.{Cong, c_refl, c_sym, c_trans, c_eq, c_add, c_mul, c_mod, c_cancel, c_dvd, c_zero, ring}

pub record Refined (B n m r : ℕ) : Type 0 where
  pub at : (a b : ℕ) → 2 ≤ a → 1 ≤ b → a ∣ B → b ∣ B → b ∣ a * a → Cong a (n * m) 1 → Cong b (n * r) 1

pub refined : (B n m x y r : ℕ) → x ≡ (n * m) % B → (y + x) % B ≡ 2 % B → r ≡ (m * y) % B → Refined B n m r
refined B n m x y r ex ey er = record { at = step }
  where
    step : (a b : ℕ) → 2 ≤ a → 1 ≤ b → a ∣ B → b ∣ B → b ∣ a * a → Cong a (n * m) 1 → Cong b (n * r) 1
    step a b two one ha hb hab h = ends (x / a) (ap (λ (z : ℕ). x / a * a + z) (sym left) ∙ div-add-mod' x a)
      where
        ax : Cong B x (n * m)
        ax = c_trans (c_eq ex) (c_mod (n * m))

        left : x % a ≡ 1
        left = (c_trans (c_dvd ha ax) h).same ∙ mod-eq_of_lt (omega arith)

        product : Cong B (n * r) (x * y)
        product =
            c_trans (c_mul (c_refl {a = n}) (c_trans (c_eq er) (c_mod (m * y))))
            (c_trans (c_eq {b = n * m * y} (simp ring)) (c_mul (c_sym ax) (c_refl {a = y})))

        ends : (j : ℕ) → j * a + 1 ≡ x → Cong b (n * r) 1
        ends j e =
            c_cancel (x * x) one
            (c_trans (c_add (c_dvd hb product) (c_refl {a = x * x}))
            (c_trans (c_eq {b = x * (y + x)} (omega arith))
            (c_trans (c_mul (c_refl {a = x}) (c_dvd hb (record { same = ey })))
            (c_trans (c_eq {b = x * 2 + 0} (omega arith))
            (c_trans (c_add (c_refl {a = x * 2}) (c_sym (c_zero (dvd_trans b hab (dvd-mul_right (a * a) (j * j))))))
            (c_eq (rw (← e) (omega arith))))))))

pub odd_square : (n : ℕ) → n % 2 ≡ 1 → Cong 8 (n * n) 1
odd_square n odd = go (ℕ_discrete (n % 4) 1)
  where
    one : (j : ℕ) → n ≡ 4 * j + 1 → (n * n) % 8 ≡ 1
    one j e = rw e (omega arith)

    three : (j : ℕ) → n ≡ 4 * j + 3 → (n * n) % 8 ≡ 1
    three j e = rw e (omega arith)

    go : Dec (n % 4 ≡ 1) → Cong 8 (n * n) 1
    go (yes e) = record { same = one (n / 4) (omega arith) }
    go (no e) = record { same = three (n / 4) (omega arith) }
