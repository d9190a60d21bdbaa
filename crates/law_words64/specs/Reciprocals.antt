-- Multiplication modulo n in words of one base B, with no division: a modulus comes with its reciprocal, two digits in the base. Over any
-- base: nothing here knows a word's width. `law_words/Fractions` has the fraction of a factor.
--
--   remainder, wrapped         a rest below n is the residue; a difference of words that wraps where it must
--   scaled_less, scaled_is     c y by the low halves of c y and of q n, q from the fraction of c
--   sum_less, sum_is           the sum of two residues
--   Digit, digits-…            a digit of a quotient in the base b, and two of them
--   Less                       n taken off once, where something stays left
--   digit-…                    a digit in the base 2^32 by the upper half of n, for n of 2^63 and more
--   multiple-…, reciprocal_is    the fraction of n is that of n v₁, which is at least half of the base
--   IsReciprocal B n r v₁ v₀   B² / n, rounded so that something is left, has the digits v₁ and v₀; r is B less v₁ n
--   square_is                  what the second digit leaves is B² modulo n
--   two_words                  two words are a sum of two words modulo n
--   multiplier-…               the fraction of a factor, from the reciprocal
use Rattle.std.specs.Prelude.{◌≡◌, ℕ, ◌+◌, ◌-◌, ◌*◌, ◌/◌, ◌%◌, ◌^◌, ◌<◌, ◌≤◌}
use Rattle.std.proofs.Common.{sym, ap, ap₂, ◌∙◌, mul-le-mul_left, mul-le-mul_right, le_of_mul-le-mul_right, lt_of_mul-lt-mul_right, mul-le-mul, mod-lt, mod-eq_of_lt, div-mul-le_self, div-add-mod', arith}
use Rattle.std.proofs.Math.Nat.{add-mul-mod_self_right, mul-mod_left, add-mod, add-mod-mod, lt-div-mul-add}
use Rattle.std.proofs.Math.Decide.{dec_lt}
use Rattle.law_numbers.specs.Congruence.{Cong, c_refl, c_sym, c_trans, c_eq, c_add, c_mul, c_cancel}
use Rattle.law_words64.specs.Montgomery.{IsSquare}
use Rattle.law_words.specs.Fractions.{Fraction, scaled_least, scaled_most}

pub remainder : (n N q r : ℕ) → r + q * n ≡ N → r < n → r ≡ N % n
remainder n N q r e l = sym (ap (λ (x : ℕ). x % n) (sym e) ∙ add-mul-mod_self_right r q n ∙ mod-eq_of_lt l)

-- a difference of words that wraps where it must
pub wrapped : (B P Q r : ℕ) → Q ≤ P → P < Q + B → r < B → (r + Q % B) % B ≡ P % B → r + Q ≡ P
wrapped B P Q r l h f e =
    let c : Cong B r (P - Q) = c_cancel Q (omega arith) (c_trans (record { same = sym (add-mod-mod r Q B) ∙ e }) (c_eq (omega arith))) in
    let d : r ≡ P - Q = sym (mod-eq_of_lt f) ∙ c.same ∙ mod-eq_of_lt (omega arith) in
    omega arith

-- c y, by the low halves of c y and of q n
module _ {B n c w : ℕ} (pos : 0 < n) (half : n + n < B) (f : Fraction B n c w) (y q l k r : ℕ) (small : y < B)
    (eq : q ≡ w * y / B) (el : l ≡ (c * y) % B) (ek : k ≡ (q * n) % B) (er : (r + k) % B ≡ l) (fits : r < B) where
  low : q * B ≤ w * y
  low = rw eq (div-mul-le_self (w * y) B)

  high : w * y < q * B + B
  high = rw eq (lt-div-mul-add (omega arith))

  sum : r + q * n ≡ c * y
  sum = wrapped B (c * y) (q * n) r (scaled_least pos f y q small low high) (omega (arith, scaled_most pos f y q small low high)) fits
      (ap (λ (x : ℕ). (r + x) % B) (sym ek) ∙ er ∙ el)

  pub scaled_less : r < n + n
  scaled_less = let e = sum in omega (arith, scaled_most pos f y q small low high)

  pub scaled_is : (z : ℕ) → z ≡ r % n → z ≡ (c * y) % n
  scaled_is z e = e ∙ sym (add-mul-mod_self_right r q n) ∙ ap (λ (x : ℕ). x % n) sum

-- the sum of two residues
module _ (n a b : ℕ) {x y : ℕ} (pos : 0 < n) (ex : x ≡ a % n) (ey : y ≡ b % n) where
  pub sum_less : x + y < n + n
  sum_less = rw (ex, ey) (let p = mod-lt a pos in let q = mod-lt b pos in omega arith)

  pub sum_is : {z : ℕ} → z ≡ (x + y) % n → z ≡ (a + b) % n
  sum_is e = e ∙ ap₂ (λ (u v : ℕ). (u + v) % n) ex ey ∙ sym (add-mod a b n)

-- one digit in the base b of a quotient by n: something stays left
pub record Digit (b n x q x' : ℕ) : Type 0 where
  pub sum : q * n + x' ≡ x * b
  pub some : 1 ≤ x'
  pub most : x' ≤ n

pub digit_less : {b n x q x' : ℕ} → Digit b n x q x' → x ≤ n → q < b
digit_less {b} {n} {x} {q} d l = lt_of_mul-lt-mul_right n (let e = d.sum in let s = d.some in omega (arith, mul-le-mul_right b l))

-- two digits
module _ {b B n x q x' q' y v : ℕ} (d : Digit b n x q x') (e : Digit b n x' q' y) (square : B ≡ b * b) (ev : v ≡ q * b + q') where
  both : v * n + y ≡ x * B
  both = rw (ev, square) (omega (arith, e.sum, ap (λ (z : ℕ). z * b) d.sum))

  pub digits_under : v * n < x * B
  digits_under = let s = both in omega (arith, e.some)

  pub digits_over : x * B ≤ v * n + n
  digits_over = let s = both in omega (arith, e.most)

-- n is taken off where something stays left
pub record Less (n q s q' x : ℕ) : Type 0 where
  pub sum : q' * n + x ≡ q * n + s
  pub some : 1 ≤ s → 1 ≤ x
  pub most : x ≤ n

-- a digit in the base 2^32 by the upper half of n, one more: it is at most two too small, and a + c is left
module _ {n x : ℕ} (large : 2 ^ 63 ≤ n) (word : n < 2 ^ 64) (least : 1 ≤ x) (most : x ≤ n) where
  rest : x % (n / 4294967296 + 1) < n / 4294967296 + 1
  rest = mod-lt x (omega arith)

  pub digit_first : x % (n / 4294967296 + 1) * 4294967296 ≤ n
  digit_first = let r = rest in omega arith

  quotient_less : x / (n / 4294967296 + 1) < 4294967296
  quotient_less =
      lt_of_mul-lt-mul_right (n / 4294967296 + 1) (let e = div-add-mod' x (n / 4294967296 + 1) in omega arith)

  pub digit_word : x / (n / 4294967296 + 1) < 2 ^ 63
  digit_word = let l = quotient_less in omega arith

  pub digit_second : x / (n / 4294967296 + 1) * (4294967296 - n % 4294967296) < 2 ^ 64
  digit_second = let l = quotient_less in
      omega (
        arith,
        mul-le-mul {n₁ = x / (n / 4294967296 + 1)} {m₁ = 4294967296 - n % 4294967296} {n₂ = 4294967295} {m₂ = 4294967296}
            (omega arith) (omega arith),
      )

  module _ {q c q₁ c₁ : ℕ} (f : Less n q (c + 0) q₁ c₁) (eq : q ≡ x / (n / 4294967296 + 1))
      (ec : c ≡ q * (4294967296 - n % 4294967296)) where
    pub digit_next : q₁ < 2 ^ 63
    digit_next = lt_of_mul-lt-mul_right n (let l = quotient_less in let m : c < 2 ^ 64 = rw (ec, eq) digit_second in
        let e = f.sum in omega (arith, mul-le-mul_right n (let h : q ≤ 4294967295 = omega arith in h)))

    pub digit_is : {a q₂ x₂ : ℕ} → Less n q₁ (a + c₁) q₂ x₂ → a ≡ x % (n / 4294967296 + 1) * 4294967296 → Digit 4294967296 n x q₂ x₂
    digit_is {a} {q₂} {x₂} g ea = record {
      sum = let e = left in omega (arith, f.sum, g.sum);
      some = g.some (some (dec_lt 0 c));
      most = g.most;
    }
      where
        whole : q * (n / 4294967296 + 1) + x % (n / 4294967296 + 1) ≡ x
        whole = rw eq (div-add-mod' x (n / 4294967296 + 1))

        left : q * n + (a + c) ≡ x * 4294967296
        left = go (n / 4294967296) (n % 4294967296) (4294967296 - n % 4294967296) (x % (n / 4294967296 + 1)) (omega arith) (omega arith)
            ea ec whole
          where
            go : (u v k r : ℕ) → n ≡ u * 4294967296 + v → v + k ≡ 4294967296 → a ≡ r * 4294967296 → c ≡ q * k → q * (u + 1) + r ≡ x
                → q * n + (a + c) ≡ x * 4294967296
            go u v k r en ek ea' ec' ex = let f = ap (λ (z : ℕ). q * z) ek in rw (en, ea', ec', ← ex) (omega arith)

        some : Dec (0 < c) → 1 ≤ a + c₁
        some (yes l) = omega (arith, f.some (omega arith))
        some (no l) =
            let f : q * 1 ≤ q * (4294967296 - n % 4294967296) = mul-le-mul_left q (omega arith) in
            let z : q ≡ 0 = omega arith in
            let e : 0 * (n / 4294967296 + 1) + x % (n / 4294967296 + 1) ≡ x = rw (← z) whole in
            omega arith

pub record IsReciprocal (B n r v₁ v₀ : ℕ) : Type 0 where
  pub pos : 1 ≤ n
  pub half : n + n < B
  pub rest : v₁ * n + r ≡ B
  pub some : 1 ≤ r
  pub most : r ≤ n
  pub under : v₀ * n < r * B
  pub over : r * B ≤ v₀ * n + n

-- the reciprocal, from t = B - 1
pub rest_fits : (t n : ℕ) → 1 ≤ n → t % n + 1 ≤ n
rest_fits t n l = let h = mod-lt t l in omega arith

-- n times v₁ is at least half of the base, and its fraction is that of n
module _ (t n : ℕ) (pos : 1 ≤ n) (half : n + n < t + 1) where
  quotient : t / n * n + (t % n + 1) ≡ t + 1
  quotient = let e = div-add-mod' t n in omega arith

  pub multiple_large : t + 1 ≤ t / n * n + t / n * n
  multiple_large = let e = quotient in let h = rest_fits t n pos in omega arith

  some_digit : 1 ≤ t / n
  some_digit = lt_of_mul-lt-mul_right n (let e = quotient in let h = rest_fits t n pos in omega arith)

  pub multiple_some : 1 ≤ t / n * (t % n + 1)
  multiple_some = mul-le-mul {n₁ = 1} {m₁ = 1} some_digit (omega arith)

  pub multiple_most : t / n * (t % n + 1) ≤ t / n * n
  multiple_most = mul-le-mul_left (t / n) (rest_fits t n pos)

  pub reciprocal_is : (v₀ : ℕ) → v₀ * (t / n * n) < t / n * (t % n + 1) * (t + 1)
      → t / n * (t % n + 1) * (t + 1) ≤ v₀ * (t / n * n) + t / n * n
      → IsReciprocal (t + 1) n (t % n + 1) (t / n) v₀
  reciprocal_is v₀ u o = record {
    pos = pos;
    half = half;
    rest = quotient;
    some = omega arith;
    most = rest_fits t n pos;
    under = lt_of_mul-lt-mul_right (t / n) (omega arith);
    over = le_of_mul-le-mul_right {k = t / n} (omega arith) (omega (arith, some_digit));
  }

module _ {B n r v₁ v₀ : ℕ} (m : IsReciprocal B n r v₁ v₀) where
  pub base_fraction : Fraction B n r v₀
  base_fraction = let u = m.under in record { least = omega arith; most = m.over }

  pub unit_fraction : Fraction B n 1 v₁
  unit_fraction = let e = m.rest in let l = m.most in record { least = omega arith; most = omega arith }

  -- the base is r modulo n
  pub base : Cong n B r
  base = record { same = ap (λ (x : ℕ). x % n) (sym m.rest ∙ (omega arith)) ∙ add-mul-mod_self_right r v₁ n }

  -- what the second digit leaves is B² modulo n
  pub square_is : {s : ℕ} (w : ℕ) → w ≡ (v₀ * n) % B → (s + w) % B ≡ 0 → s < B → IsSquare B n s
  square_is {s} w ew es l = record {
    most = let e = left in let o = m.over in omega arith;
    is = c_trans (c_trans (record { same = sym (add-mul-mod_self_right s v₀ n) }) (c_eq left)) (c_mul (c_sym base) c_refl);
  }
    where
      left : s + v₀ * n ≡ r * B
      left = let u = m.under in let o = m.over in let b = m.half in
          wrapped B (r * B) (v₀ * n) s (omega arith) (omega arith) l (ap (λ (x : ℕ). (s + x) % B) (sym ew) ∙ es ∙ sym (mul-mod_left r B))

  -- the base is r modulo n, so two words are a sum of two words
  pub two_words : (hi lo : ℕ) → (r * hi + 1 * lo) % n ≡ (hi * B + lo) % n
  two_words hi lo =
      (c_trans (c_eq {a = r * hi + 1 * lo} {b = hi * r + lo} (omega arith)) (c_add (c_mul (c_refl {a = hi}) (c_sym base)) c_refl)).same

  -- the fraction of c: h is the high half of c v₀
  module _ (c h : ℕ) (small : c ≤ n) (eh : h ≡ c * v₀ / B) where
    floor : h * B ≤ c * v₀
    floor = rw eh (div-mul-le_self (c * v₀) B)

    ceiling : c * v₀ < h * B + B
    ceiling = rw eh (lt-div-mul-add (let e = m.half in omega arith))

    h_less : h < r
    h_less = lt_of_mul-lt-mul_right B (let u = m.under in let f = floor in omega (arith, mul-le-mul_right v₀ small))

    pub product_fits : c * v₁ < B
    product_fits = let e = m.rest in let s = m.some in omega (arith, mul-le-mul_right v₁ small)

    pub quotient_fits : c * v₁ + h < B
    quotient_fits = let e = m.rest in let l = h_less in omega (arith, mul-le-mul_right v₁ small)

    part_least : h * n ≤ c * r
    part_least =
        le_of_mul-le-mul_right {k = B} (let u = m.under in omega (arith, mul-le-mul_right n floor, mul-le-mul_left c m.under))
        (let e = m.half in omega arith)

    part_most : c * r < h * n + n + n
    part_most =
        lt_of_mul-lt-mul_right B (let p = m.pos in let b = m.half in
        omega (arith, mul-le-mul_right n ceiling, mul-le-mul_left c m.over, mul-le-mul_right n small, mul-le-mul_right n b))

    pub quotient_least : (c * v₁ + h) * n ≤ c * B
    quotient_least = let p = part_least in rw (sym m.rest) (omega arith)

    pub quotient_most : c * B < (c * v₁ + h) * n + n + n
    quotient_most = let p = part_most in rw (sym m.rest) (omega arith)

    -- p is what w n, w the fraction so far, lacks of c B
    module _ (w k p : ℕ) (ew : w ≡ c * v₁ + h) (ek : k ≡ (w * n) % B) (ep : (p + k) % B ≡ 0) (fits : p < B) where
      left : p + w * n ≡ c * B
      left = wrapped B (c * B) (w * n) p (rw ew quotient_least) (rw ew (let b = m.half in omega (arith, quotient_most))) fits
          (ap (λ (x : ℕ). (p + x) % B) (sym ek) ∙ ep ∙ sym (mul-mod_left c B))

      pub multiplier_none : p ≤ n → Fraction B n c w
      multiplier_none l = let e = left in record { least = omega arith; most = omega arith }

      pub multiplier_fits : n < p → w + 1 < B
      multiplier_fits l = lt_of_mul-lt-mul_right n (let e = left in omega (arith, mul-le-mul_right B small))

      pub multiplier_once : n < p → Fraction B n c (w + 1)
      multiplier_once l = let e = left in record { least = omega arith; most = rw ew (omega (arith, quotient_most)) }
