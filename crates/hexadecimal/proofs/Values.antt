-- The table of digits' values: one test, computed over its entries, says that each is right.
--
--   values                 the table, 48 above the value, 64 where a character is no digit
--   value_at, value_is     what an entry says of its character
--   digit_low, digit_high  the characters outside the table are no digits
use mathlib.Core.Path.{◌≡◌, refl, ap, ◌∙◌}
use mathlib.Core.Bool.{Bool, true, ◌&&◌}
use mathlib.Core.List.{List, [], ◌∷◌}
use Prim.Native.Nat.{ℕ, zero, suc, ◌+◌, ◌-◌, ◌<◌, ◌≤◌}
use native.Mathlib.Omega.{arith}
use lib.ListN.{length, get_or}
use lib.Dec.{eqb}
use borrow.Author.Tests.{eqb-true, lt-ltb, le-ltb}
use Rattle.hexadecimal.specs.Hexadecimal.{digit_of}
use Rattle.hexadecimal.specs.DigitLaws.{and_both}

-- from the character i on, each entry is 48 above the value of its character
right : ℕ → List ℕ → Bool
right i [] = true
right i (x ∷ xs) = eqb x (48 + digit_of i) && right (suc i) xs

right_at : (xs : List ℕ) (i k : ℕ) → right i xs ≡ true → k < length xs → get_or xs k 0 ≡ 48 + digit_of (i + k)
unfolding right
right_at [] i k t h = absurd (omega arith)
right_at (x ∷ xs) i zero t h =
    let e : i ≡ i + 0 = omega arith in
    let b = and_both (eqb x (48 + digit_of i)) (right (suc i) xs) t in
    eqb-true x (48 + digit_of i) b.0 ∙ ap (λ (y : ℕ). 48 + digit_of y) e
right_at (x ∷ xs) i (suc k) t h =
    let e : suc i + k ≡ i + suc k = omega arith in
    let b = and_both (eqb x (48 + digit_of i)) (right (suc i) xs) t in
    right_at xs (suc i) k b.1 (omega arith) ∙ ap (λ (y : ℕ). 48 + digit_of y) e

abbrev pub values : List ℕ
values =
    48 ∷ 49 ∷ 50 ∷ 51 ∷ 52 ∷ 53 ∷ 54 ∷ 55 ∷ 56 ∷ 57
    ∷ 64 ∷ 64 ∷ 64 ∷ 64 ∷ 64 ∷ 64 ∷ 64 ∷ 64 ∷ 64 ∷ 64 ∷ 64 ∷ 64 ∷ 64 ∷ 64 ∷ 64 ∷ 64 ∷ 64 ∷ 64 ∷ 64 ∷ 64
    ∷ 64 ∷ 64 ∷ 64 ∷ 64 ∷ 64 ∷ 64 ∷ 64 ∷ 64 ∷ 64 ∷ 64 ∷ 64 ∷ 64 ∷ 64 ∷ 64 ∷ 64 ∷ 64 ∷ 64 ∷ 64 ∷ 64
    ∷ 58 ∷ 59 ∷ 60 ∷ 61 ∷ 62 ∷ 63 ∷ []

values_right : right 48 values ≡ true
unfolding right
values_right = refl

pub value_at : (c : ℕ) → 48 ≤ c → c ≤ 102 → get_or values (c - 48) 0 ≡ 48 + digit_of c
value_at c h l =
    let e : 48 + (c - 48) ≡ c = omega arith in
    right_at values 48 (c - 48) values_right (omega arith) ∙ ap (λ (y : ℕ). 48 + digit_of y) e

pub digit_low : (c : ℕ) → c < 48 → 16 ≡ digit_of c
digit_low c h = simp (lt-ltb c 48 h)

pub digit_high : (c : ℕ) → 102 < c → 16 ≡ digit_of c
digit_high c h = simp (le-ltb c 48 (omega arith), le-ltb c 58 (omega arith), le-ltb c 97 (omega arith), le-ltb c 103 (omega arith))

pub value_is : (c : ℕ) → 48 ≤ c → c ≤ 102 → get_or values (c - 48) 0 - 48 ≡ digit_of c
value_is c h l = omega (arith, value_at c h l)
