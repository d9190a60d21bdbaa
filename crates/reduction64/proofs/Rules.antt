-- The rules of the proofs of this crate, a set for each group of functions: `search` finds them by the facts that the code provides.
--
--   digit-…, fraction-…, multiple-…, ready-…    the reciprocal
--   factor-…                          the fraction of a factor
--   whole_residue, left_less, left_is    what a product leaves, below 2 n
--   …-fraction, parts-…               two words modulo n
--   large-…                           two words modulo n of 2^63 and more
--   own_residue, residue_below, sum-…    residues and their sums
use Rattle.std.proofs.Common.{◌≡◌, ℕ, ◌+◌, ◌-◌, ◌*◌, ◌/◌, ◌%◌, ◌^◌, ◌<◌, ◌≤◌, sym, refl, ap, ◌∙◌, ap₂, mod-lt, mod-eq_of_lt, div-add-mod', div-mul-le_self, arith, rules}
use native.Mathlib.Nat.{mod-add-mod, dvd-mul_left}
use Rattle.law_numbers.specs.Congruence.{Cong, c_refl, c_sym, c_trans, c_eq, c_add, c_mul, c_mod, c_neg, c_cancel, c_zero}
use Rattle.law_words.specs.Fractions.{Fraction}
use Rattle.law_words64.specs.Reciprocals.{Digit, Less, IsReciprocal, digit_first, digit_word, digit_second}
use Rattle.law_words64.specs.Reciprocals.{digit_next, digit_is, digit_less, digits_under, digits_over, rest_fits, multiple_large}
use Rattle.law_words64.specs.Reciprocals.{multiple_some, multiple_most, reciprocal_is, square_is, product_fits, quotient_fits}
use Rattle.law_words64.specs.Reciprocals.{multiplier_none, multiplier_once, remainder}
use Rattle.law_words64.specs.Reciprocals.{multiplier_fits, scaled_less, scaled_is, sum_less, sum_is, two_words, base_fraction}
use Rattle.law_words64.specs.Reciprocals.{unit_fraction}
use Rattle.montgomery64.specs.Forms.{Inverse, open_inverse, shut_form, shut_square}
use Rattle.reduction64.specs.Moduli.{Ready, open_ready, shut}
use Rattle.reduction64.specs.declared.Reciprocal.{Reciprocal}

-- ---- the reciprocal

module _ {n x : ℕ} (large : 2 ^ 63 ≤ n) (word : n < 2 ^ 64) (least : 1 ≤ x) (most : x ≤ n) where
  pub digit_part : x % (n / 4294967296 + 1) * 4294967296 < 2 ^ 64
  digit_part = let l = digit_first large word least most in omega arith

  pub digit_room : x / (n / 4294967296 + 1) * (4294967296 - n % 4294967296) + 0 ≤ n + n
  digit_room = let l = digit_second large word least most in omega arith

  pub digit_both : {q s q₁ c₁ : ℕ} → Less n q s q₁ c₁ → x % (n / 4294967296 + 1) * 4294967296 + c₁ ≤ n + n
  digit_both f = let l = digit_first large word least most in let m = f.most in omega arith

pub fraction_part : {b n x q x' : ℕ} → Digit b n x q x' → x ≤ n → b ≡ 4294967296 → q * 4294967296 < 2 ^ 64
fraction_part d l e = let h = digit_less d l in omega arith

pub fraction_fits : {b n x q x' q' y : ℕ} → Digit b n x q x' → Digit b n x' q' y → x ≤ n → b ≡ 4294967296 → q * 4294967296 + q' < 2 ^ 64
fraction_fits d e l eb = let h = digit_less d l in let k = digit_less e d.most in omega arith

pub rest_word : (n : ℕ) → 1 ≤ n → n < 9223372036854775808 → 18446744073709551615 % n + 1 < 2 ^ 64
rest_word n pos l = let h = rest_fits 18446744073709551615 n pos in omega arith

pub multiple_word : (n : ℕ) → 18446744073709551615 / n * n < 2 ^ 64
multiple_word n = let h = div-mul-le_self 18446744073709551615 n in omega arith

module _ {n : ℕ} (pos : 1 ≤ n) (small : n < 9223372036854775808) where
  pub multiple_high : 2 ^ 63 ≤ 18446744073709551615 / n * n
  multiple_high = let h = multiple_large 18446744073709551615 n pos (omega arith) in omega arith

  pub multiple_least : 1 ≤ 18446744073709551615 / n * (18446744073709551615 % n + 1)
  multiple_least = multiple_some 18446744073709551615 n pos (omega arith)

  pub multiple_below : 18446744073709551615 / n * (18446744073709551615 % n + 1) ≤ 18446744073709551615 / n * n
  multiple_below = multiple_most 18446744073709551615 n pos (omega arith)

  pub multiple_fits : 18446744073709551615 / n * (18446744073709551615 % n + 1) < 2 ^ 64
  multiple_fits = let h = multiple_word n in let l = multiple_below in omega arith

pub ready_large : (m : Reciprocal) → 1 ≤ m.n → 9223372036854775808 ≤ m.n → m.k ≡ 0 → Ready m
ready_large m pos l e = shut m pos (λ h. absurd (omega arith)) (λ h. absurd (h e))

pub ready_small : (m : Reciprocal) (w : ℕ) → 1 ≤ m.n → m.n < 9223372036854775808
    → m.v0 * (18446744073709551615 / m.n * m.n) < 18446744073709551615 / m.n * (18446744073709551615 % m.n + 1) * 2 ^ 64
    → 18446744073709551615 / m.n * (18446744073709551615 % m.n + 1) * 2 ^ 64
    ≤ m.v0 * (18446744073709551615 / m.n * m.n) + 18446744073709551615 / m.n * m.n
    → Inverse m.n m.k → w ≡ (m.v0 * m.n) % 2 ^ 64 → (m.s + w) % 2 ^ 64 ≡ 0 → m.s < 2 ^ 64 → m.v1 ≡ 18446744073709551615 / m.n
    → m.r ≡ 18446744073709551615 % m.n + 1 → Ready m
ready_small m w pos small u o i ew es ls ev er =
    shut m pos (λ _. is)
    (λ h. (shut_form (record { pos = pos; half = omega arith; inverse = open_inverse i h }), shut_square (square_is is w ew es ls)))
  where
    is : IsReciprocal (2 ^ 64) m.n m.r m.v1 m.v0
    is = rw (ev, er) (reciprocal_is 18446744073709551615 m.n pos (omega arith) m.v0 u o)

-- ---- the fraction of a factor

module _ {m : Reciprocal} {c : ℕ} (ready : Ready m) (small : m.n < 2 ^ 63) (most : c ≤ m.n) where
  pub factor_product : c * m.v1 < 2 ^ 64
  factor_product = product_fits (open_ready ready small) c _ most refl

  module _ (h : ℕ) (eh : h ≡ c * m.v0 / 2 ^ 64) where
    pub factor_sum : c * m.v1 + h < 2 ^ 64
    factor_sum = quotient_fits (open_ready ready small) c h most eh

    module _ (k p : ℕ) (ek : k ≡ ((c * m.v1 + h) * m.n) % 2 ^ 64) (ep : (p + k) % 2 ^ 64 ≡ 0) (fits : p < 2 ^ 64) where
      pub factor_none : p ≤ m.n → Fraction (2 ^ 64) m.n c (c * m.v1 + h)
      factor_none = multiplier_none (open_ready ready small) c h most eh _ k p refl ek ep fits

      pub factor_fits : m.n < p → c * m.v1 + h + 1 < 2 ^ 64
      factor_fits = multiplier_fits (open_ready ready small) c h most eh _ k p refl ek ep fits

      pub factor_once : {w : ℕ} → m.n < p → w ≡ c * m.v1 + h + 1 → Fraction (2 ^ 64) m.n c w
      factor_once l ew = rw ew (multiplier_once (open_ready ready small) c h most eh _ k p refl ek ep fits l)

-- ---- products

pub whole_residue : (n s r : ℕ) → r ≡ (s + (n - n)) % n → r ≡ s % n
whole_residue n s r e = e ∙ ap (λ (x : ℕ). x % n) (omega arith)

module _ {m : Reciprocal} {c w : ℕ} (ready : Ready m) (small : m.n < 2 ^ 63) (f : Fraction (2 ^ 64) m.n c w) (y q l k r : ℕ)
    (eq : q ≡ w * y / 2 ^ 64) (el : l ≡ (c * y) % 2 ^ 64) (ek : k ≡ (q * m.n) % 2 ^ 64) (er : (r + k) % 2 ^ 64 ≡ l)
    (word : y < 2 ^ 64) (fits : r < 2 ^ 64) where
  pub left_less : r < m.n + m.n
  left_less = scaled_less ready.pos (open_ready ready small).half f y q l k r word eq el ek er fits

  pub left_is : (z : ℕ) → z ≡ r % m.n → z ≡ (c * y) % m.n
  left_is z e = scaled_is ready.pos (open_ready ready small).half f y q l k r word eq el ek er fits z e

module _ {m : Reciprocal} (ready : Ready m) (small : m.n < 2 ^ 63) where
  pub high_fraction : Fraction (2 ^ 64) m.n m.r m.v0
  high_fraction = base_fraction (open_ready ready small)

  pub low_fraction : Fraction (2 ^ 64) m.n 1 m.v1
  low_fraction = unit_fraction (open_ready ready small)

  module _ (a b x y : ℕ) (ex : x ≡ a % m.n) (ey : y ≡ b % m.n) where
    pub parts_less : x + y < m.n + m.n
    parts_less = sum_less m.n a b ready.pos ex ey

    pub parts_fit : x + y < 2 ^ 64
    parts_fit = let h = parts_less in omega arith

  pub parts_are : (h t x y r : ℕ) → x ≡ (m.r * h) % m.n → y ≡ (1 * t) % m.n → r ≡ (x + y) % m.n → r ≡ (h * 2 ^ 64 + t) % m.n
  parts_are h t x y r ex ey er = sum_is m.n (m.r * h) (1 * t) ready.pos ex ey er ∙ two_words (open_ready ready small) h t

pub words_are : (n a b h t r : ℕ) → h ≡ a * b / 2 ^ 64 → t ≡ (a * b) % 2 ^ 64 → r ≡ (h * 2 ^ 64 + t) % n → r ≡ (a * b) % n
words_are n a b h t r eh et er =
    er ∙ ap (λ (x : ℕ). x % n) (ap₂ (λ (x y : ℕ). x * 2 ^ 64 + y) eh et ∙ div-add-mod' (a * b) (2 ^ 64))

-- ---- two words modulo a large n

module _ {n : ℕ} (large : 2 ^ 63 ≤ n) where
  pub large_below : (t y : ℕ) → y ≡ t % n → y < n
  large_below t y e = rw e (mod-lt t (omega arith))

  pub large_within : (t y : ℕ) → y ≡ t % n → y ≤ n
  large_within t y e = let l = large_below t y e in omega arith

  pub large_some : (t y : ℕ) → y ≡ t % n → 1 ≤ n - y
  large_some t y e = let l = large_below t y e in omega arith

  module _ (x q k p : ℕ) (under : q * n < x * 2 ^ 64) (over : x * 2 ^ 64 ≤ q * n + n) (ek : k ≡ (q * n) % 2 ^ 64)
      (ep : (p + k) % 2 ^ 64 ≡ 0) (fits : p < 2 ^ 64) (word : n < 2 ^ 64) where
    large_left : p + q * n ≡ x * 2 ^ 64
    large_left = omega arith

    pub large_most : p ≤ n
    large_most = let e = large_left in omega arith

    pub large_less : n - p < n
    large_less = let e = large_left in omega arith

    pub large_is : (h y t z r : ℕ) → y ≡ h % n → x ≡ n - y → z ≡ t % n → r ≡ (n - p + z) % n → r ≡ (h * 2 ^ 64 + t) % n
    large_is h y t z r ey ex ez er = er ∙ (c_add rotated (c_trans (c_eq ez) (c_mod t))).same
      where
        none : Cong n ((h + x) * 2 ^ 64) 0
        none = c_mul (c_trans (c_eq (ap (λ (u : ℕ). h + u) (ex ∙ ap (λ (u : ℕ). n - u) ey))) (c_neg n h (omega arith))) c_refl

        rotated : Cong n (n - p) (h * 2 ^ 64)
        rotated =
            let e = large_left in
            let l = large_most in
            c_cancel (p + q * n) (omega arith)
            (c_trans (c_eq {b = (q + 1) * n} (omega arith))
            (c_trans (c_zero (dvd-mul_left n (q + 1))) (c_trans (c_sym none) (c_eq {b = h * 2 ^ 64 + (p + q * n)} (omega arith)))))

-- ---- sums

pub own_residue : (x n : ℕ) → x < n → x ≡ x % n
own_residue x n l = sym (mod-eq_of_lt l)

pub sum_low : (n a b : ℕ) → a < n - b → a < n → b < n → a + b ≡ (a + b) % n
sum_low n a b l la lb = sym (mod-eq_of_lt (omega arith))

pub sum_high : (n a b r : ℕ) → n - b ≤ a → a < n → b < n → r ≡ a - (n - b) → r ≡ (a + b) % n
sum_high n a b r l la lb e = remainder n (a + b) 1 r (omega arith) (omega arith)

pub residue_below : {m : Reciprocal} (x y : ℕ) → Ready m → y ≡ x % m.n → y < m.n
residue_below x y ready e = rw e (mod-lt x ready.pos)

pub sum_residues : {m : Reciprocal} (a b x y r : ℕ) → Ready m → r ≡ (x + y) % m.n → x ≡ a % m.n → y ≡ b % m.n → r ≡ (a + b) % m.n
sum_residues {m} a b x y r ready er ex ey = sum_is m.n a b ready.pos ex ey er

pub sum_after : (n a b x r : ℕ) → r ≡ (x + b) % n → x ≡ a % n → r ≡ (a + b) % n
sum_after n a b x r er ex = er ∙ ap (λ (u : ℕ). (u + b) % n) ex ∙ mod-add-mod a n b

pub sum_third : (n a b c x y r : ℕ) → r ≡ (y + c) % n → y ≡ (x + b) % n → x ≡ a % n → r ≡ (a + b + c) % n
sum_third n a b c x y r er ey ex = sum_after n (a + b) c y r er (sum_after n a b x y ey ex)

pub ruleset quotients = (rules, digit_word, digit_second, digit_part, digit_room, digit_both, digit_next, digit_is)

pub ruleset fractions = (rules, fraction_part, fraction_fits, digits_under, digits_over)

pub ruleset multiples = (rest_word, multiple_word, multiple_high, multiple_least, multiple_below, multiple_fits)

pub ruleset reciprocals = (rules, multiples, ready_large, ready_small)

pub ruleset factors = (rules, factor_product, factor_sum, factor_none, factor_fits, factor_once)

pub ruleset products = (rules, whole_residue, left_less, left_is, high_fraction, low_fraction, parts_less, parts_fit, parts_are, words_are)

pub ruleset large = (rules, large_below, large_within, large_some, large_most, large_less, large_is)

pub ruleset sums = (rules, own_residue, sum_low, sum_high, residue_below, sum_residues, sum_after, sum_third)
