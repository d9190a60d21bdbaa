-- The rules of the proofs of this crate, over plain numbers: `search rules` finds them by the facts that the code provides.
--
--   minus_is                        a difference known by its sign
--   newton, five_steps, no_inverse  a step of the inverse; five of them; an even n has none
--   carried-…                       the carry of a sum of words
--   product_is, added_fits, added_is    a product of two words; what is added to it
--   multiple_most, redc_is          the multiple of n, and what is left of two words without it
--   entered-…, three-…, pair-…      a multiplier entered; what fits on the way of a sum of products, and what it is
--   rules, sums, pairs              the rules
use Rattle.std.proofs.Common.{◌≡◌, ℕ, ◌+◌, ◌-◌, ◌*◌, ◌/◌, ◌%◌, ◌^◌, ◌<◌, ◌≤◌, sym, refl, ap, ◌∙◌, ap₂, add-zero, le_of_lt, mul-le-mul_right, mod-lt, mod-eq_of_lt, mul-le-mul_left, div-add-mod', mul-one, arith, rules}
use Prim.Native.Nat.{◌∣◌}
use native.Mathlib.Nat.{mod_self, zero-mod}
use native.Mathlib.Nat.{dvd-mul_right, dvd_refl}
use native.Mathlib.Decide.{dec_lt}
use Rattle.law_numbers.specs.Congruence.{Cong, c_refl, c_sym, c_trans, c_eq, c_add, c_mul, c_mod}
use Rattle.reduction.specs.Newton.{Refined, refined, odd_square}
use Rattle.reduction.proofs.Reducing.{sign_fits, low_fits, high_fits, mixed_fits}
use Rattle.law_words64.specs.Halves.{low_is}
use Rattle.law_words64.specs.Reciprocals.{remainder}
use Rattle.law_words64.specs.Montgomery.{IsForm, multiple_below, multiple_reduced, held_is}
use Rattle.law_words64.specs.Montgomery.{high_less, high_room, high_most, two_products, product_most}
use Rattle.montgomery64.specs.Forms.{Formed, Squared, Held, Reduced, Inverse, Carried, Factors}
use Rattle.montgomery64.specs.Forms.{open_form, open_square, open_reduced, shut_held, shut_reduced, shut_inverse}

-- ---- a difference known by its sign

pub minus_is : (n a b y r : ℕ) → n < 2 ^ 63 → b ≤ n → a < n + b → y < 2 ^ 64 → (y + b) % 2 ^ 64 ≡ a
    → r ≡ (y + y / 9223372036854775808 * n) % 2 ^ 64 → r ≡ (a + (n - b)) % n
minus_is n a b y r small lb la ly e f = go (dec_lt a b)
  where
    go : Dec (a < b) → r ≡ (a + (n - b)) % n
    go (yes l) =
        let s : y / 9223372036854775808 ≡ 1 = omega arith in
        let g : r ≡ (y + 1 * n) % 2 ^ 64 = f ∙ ap (λ (z : ℕ). (y + z * n) % 2 ^ 64) s in
        let d : r ≡ a + (n - b) = omega arith in
        d ∙ sym (mod-eq_of_lt (omega arith))
    go (no l) =
        let s : y / 9223372036854775808 ≡ 0 = omega arith in
        let g : r ≡ (y + 0 * n) % 2 ^ 64 = f ∙ ap (λ (z : ℕ). (y + z * n) % 2 ^ 64) s in
        remainder n (a + (n - b)) 1 r (omega arith) (omega arith)

-- ---- the inverse

pub newton : (n m x y r : ℕ) → x ≡ (n * m) % 2 ^ 64 → (y + x) % 2 ^ 64 ≡ 2 → r ≡ (m * y) % 2 ^ 64 → Refined (2 ^ 64) n m r
newton n m x y r ex ey er = refined (2 ^ 64) n m x y r ex ey er

pub no_inverse : (n : ℕ) → Inverse n 0
no_inverse n = record { unit = λ h. absurd (h refl) }

pub five_steps : {n m₁ m₂ m₃ m₄ m₅ : ℕ} → Refined (2 ^ 64) n n m₁ → Refined (2 ^ 64) n m₁ m₂ → Refined (2 ^ 64) n m₂ m₃
    → Refined (2 ^ 64) n m₃ m₄ → Refined (2 ^ 64) n m₄ m₅ → (n % 2 ≡ 0 → ⊥) → Inverse n m₅
five_steps {n} a b c d e odd =
    shut_inverse (
    e.at 281474976710656 (2 ^ 64) (omega arith) (omega arith) (dvd-mul_right 281474976710656 65536) (dvd_refl (2 ^ 64))
    (dvd-mul_right (2 ^ 64) 4294967296)
    (d.at 16777216 281474976710656 (omega arith) (omega arith) (dvd-mul_right 16777216 1099511627776)
    (dvd-mul_right 281474976710656 65536) (dvd_refl 281474976710656)
    (c.at 4096 16777216 (omega arith) (omega arith) (dvd-mul_right 4096 4503599627370496) (dvd-mul_right 16777216 1099511627776)
    (dvd_refl 16777216)
    (b.at 64 4096 (omega arith) (omega arith) (dvd-mul_right 64 288230376151711744) (dvd-mul_right 4096 4503599627370496) (dvd_refl 4096)
    (a.at 8 64 (omega arith) (omega arith) (dvd-mul_right 8 2305843009213693952) (dvd-mul_right 64 288230376151711744) (dvd_refl 64)
    (odd_square n (omega arith)))))))

-- ---- sums of products

pub carried_some : (s p : ℕ) → s < p → Carried s p 1
carried_some s p l = record { some = λ _. refl; none = λ h. absurd (omega arith) }

pub carried_none : (s p : ℕ) → p ≤ s → Carried s p 0
carried_none s p l = record { some = λ h. absurd (omega arith); none = λ _. refl }

pub product_is : (h p a b : ℕ) → h ≡ a * b / 2 ^ 64 → p ≡ (a * b) % 2 ^ 64 → h * 2 ^ 64 + p ≡ a * b
product_is h p a b eh ep = ap₂ (λ (x y : ℕ). x * 2 ^ 64 + y) eh ep ∙ div-add-mod' (a * b) (2 ^ 64)

pub added_is : (hi lo a b h p s k : ℕ) → lo < 2 ^ 64 → h ≡ a * b / 2 ^ 64 → p ≡ (a * b) % 2 ^ 64 → s ≡ (lo + p) % 2 ^ 64 → Carried s p k
    → (hi + h + k) * 2 ^ 64 + s ≡ hi * 2 ^ 64 + lo + a * b
added_is hi lo a b h p s k l eh ep es c = go (a * b) eh ep (dec_lt s p)
  where
    go : (x : ℕ) → h ≡ x / 2 ^ 64 → p ≡ x % 2 ^ 64 → Dec (s < p) → (hi + h + k) * 2 ^ 64 + s ≡ hi * 2 ^ 64 + lo + x
    go x eh' ep' (yes b) = let e = c.some b in omega arith
    go x eh' ep' (no b) = let e = c.none (omega arith) in omega arith

module _ (hi a b h : ℕ) (room : hi + a * b / 2 ^ 64 + 1 < 2 ^ 64) (eh : h ≡ a * b / 2 ^ 64) where
  pub half_fits : hi + h < 2 ^ 64
  half_fits = omega arith

  pub added_fits : {s p k : ℕ} → Carried s p k → hi + h + k < 2 ^ 64
  added_fits {s} {p} {k} c = go (dec_lt s p)
    where
      go : Dec (s < p) → hi + h + k < 2 ^ 64
      go (yes l) = let e = c.some l in omega arith
      go (no l) = let e = c.none (omega arith) in omega arith

-- ---- what fits a word

pub low_half : (a b r : ℕ)
    → r ≡ ((a % 4294967296) * (b % 4294967296)
    + ((a / 4294967296) * (b % 4294967296) % 4294967296 + (a % 4294967296) * (b / 4294967296) % 4294967296) % 4294967296 * 4294967296)
    % 2 ^ 64
    → r ≡ (a * b) % 2 ^ 64
low_half a b r e = e ∙ low_is a b

-- ---- the reduction

pub multiple_most : (n q x g : ℕ) → g ≡ q * x / 2 ^ 64 → q < 2 ^ 64 → x ≤ n → g ≤ n
multiple_most n q x g e l h = let k = high_most (2 ^ 64) q x g l e in omega arith

module _ {n k : ℕ} (f : Formed n k) where
  pub form_small : n < 2 ^ 63
  form_small = let h = (open_form f).half in omega arith

  pub residue_less : (h x g : ℕ) → h ≡ x % n → h < n + g
  residue_less h x g e = let l = mod-lt x (open_form f).pos in omega arith

  pub redc_is : (hi lo h q g r : ℕ) → lo < 2 ^ 64 → h ≡ (hi + (n - n)) % n → q ≡ (lo * k) % 2 ^ 64 → g ≡ q * n / 2 ^ 64
      → r ≡ (h + (n - g)) % n → Reduced n (hi * 2 ^ 64 + lo) r
  redc_is hi lo h q g r l eh eq eg er =
      shut_reduced (multiple_reduced (open_form f) lo q g l eq eg hi r (rw er (mod-lt _ (open_form f).pos))
      (c_trans (c_add (c_trans (c_eq er) (c_mod (h + (n - g)))) (c_refl {a = g}))
      (c_trans (c_eq {b = h + n} (let m = multiple_below (open_form f) lo q g l eq eg in omega arith))
      (c_trans (c_add (c_trans (c_eq eh) (c_mod (hi + (n - n)))) (record { same = mod_self n ∙ sym (zero-mod n) }))
      (c_eq (omega arith))))))

  pub below : {t r : ℕ} → Reduced n t r → r < n
  below d = (open_reduced d).below

  -- a multiplier entered
  module _ {s : ℕ} (q : Squared n s) (a th tl : ℕ) (e : th * 2 ^ 64 + tl ≡ a * s) where
    pub entered_less : a < 2 ^ 64 → th < n + n
    entered_less l = high (open_form f).pos (product_most (open_square q).most l)
      where
        above : (B : ℕ) → th * B + tl ≡ a * s → 0 < n → 0 < B → s * a ≤ n * B → th * B + tl + 0 < (n + n) * B
        above B e' pos base h = omega (arith, mul-le-mul_right B pos)

        high : 0 < n → s * a ≤ n * 2 ^ 64 → th < n + n
        high pos h = let k = high_less (2 ^ 64) n th tl 0 (above (2 ^ 64) e pos (omega arith) h) in omega arith

    pub entered : {r : ℕ} → Reduced n (th * 2 ^ 64 + tl) r → Held n a r
    entered {r} d = shut_held (held_is (open_form f) a (open_square q) (rw e at (open_reduced d)))

  module _ {c y e z : ℕ} (w : Factors n c y e z) where
    both : c * y + e * z < n * 2 ^ 64
    both = let i = open_form f in two_products i.pos i.half w.first w.word w.second w.next

    -- three products, or a word and two: all is below 2 n in the high word
    module _ (th tl : ℕ) (first : th * 2 ^ 64 + tl ≤ n * 2 ^ 64) where
      room_second : th + c * y / 2 ^ 64 + 1 < 2 ^ 64
      room_second = high_room (2 ^ 64) n th tl (c * y) (open_form f).half (go (2 ^ 64) first both)
        where
          go : (B : ℕ) → th * B + tl ≤ n * B → c * y + e * z < n * B → th * B + tl + c * y < (n + n) * B
          go B f g = omega arith

      module _ (uh ul : ℕ) (eu : uh * 2 ^ 64 + ul ≡ th * 2 ^ 64 + tl + c * y) where
        room_third : uh + e * z / 2 ^ 64 + 1 < 2 ^ 64
        room_third = high_room (2 ^ 64) n uh ul (e * z) (open_form f).half (go (2 ^ 64) first both eu)
          where
            go : (B : ℕ) → th * B + tl ≤ n * B → c * y + e * z < n * B → uh * B + ul ≡ th * B + tl + c * y
                → uh * B + ul + e * z < (n + n) * B
            go B f g h = omega arith

        total_less : (vh vl : ℕ) → vh * 2 ^ 64 + vl ≡ uh * 2 ^ 64 + ul + e * z → vh < n + n
        total_less vh vl ev =
            let h = high_less (2 ^ 64) n vh vl 0 (go (2 ^ 64) first both eu ev) in omega arith
          where
            go : (B : ℕ) → th * B + tl ≤ n * B → c * y + e * z < n * B → uh * B + ul ≡ th * B + tl + c * y
                → vh * B + vl ≡ uh * B + ul + e * z → vh * B + vl + 0 < (n + n) * B
            go B f g h i = omega arith

    module _ (l x th tl : ℕ) (et : th * 2 ^ 64 + tl ≡ l * x) (ll : l ≤ n) (lx : x < 2 ^ 64) where
      three : th * 2 ^ 64 + tl ≤ n * 2 ^ 64
      three = rw et (product_most ll lx)

      pub three_second : th + c * y / 2 ^ 64 + 1 < 2 ^ 64
      three_second = room_second th tl three

      module _ (uh ul : ℕ) (eu : uh * 2 ^ 64 + ul ≡ th * 2 ^ 64 + tl + c * y) where
        pub three_third : uh + e * z / 2 ^ 64 + 1 < 2 ^ 64
        three_third = room_third th tl three uh ul eu

        pub three_less : (vh vl : ℕ) → vh * 2 ^ 64 + vl ≡ uh * 2 ^ 64 + ul + e * z → vh < n + n
        three_less vh vl ev = total_less th tl three uh ul eu vh vl ev

        pub three_is : (vh vl r : ℕ) → vh * 2 ^ 64 + vl ≡ uh * 2 ^ 64 + ul + e * z → Reduced n (vh * 2 ^ 64 + vl) r
            → Reduced n (l * x + c * y + e * z) r
        three_is vh vl r ev d = rw (ev ∙ ap (λ (i : ℕ). i + e * z) (eu ∙ ap (λ (i : ℕ). i + c * y) et)) at d

  -- two products of a held multiplier and any word, and a number that is added when they are reduced
  module _ (th tl c y e z : ℕ) (et : th * 2 ^ 64 + tl ≡ c * y) (lc : c < n) (le : e < n) (ly : y < 2 ^ 64) (lz : z < 2 ^ 64) where
    pair : th * 2 ^ 64 + tl + e * z < (n + n) * 2 ^ 64
    pair = rw et (go (2 ^ 64) (omega arith) (mul-le-mul_left c (le_of_lt ly)) (mul-le-mul_left e (le_of_lt lz)))
      where
        go : (B : ℕ) → 0 < B → c * y ≤ c * B → e * z ≤ e * B → c * y + e * z < (n + n) * B
        go B pos a b = omega (arith, mul-le-mul_right B lc, mul-le-mul_right B le)

    pub pair_room : th + e * z / 2 ^ 64 + 1 < 2 ^ 64
    pair_room = high_room (2 ^ 64) n th tl (e * z) (open_form f).half pair

  module _ (uh ul th tl c y e z : ℕ) (eu : uh * 2 ^ 64 + ul ≡ th * 2 ^ 64 + tl + e * z) (et : th * 2 ^ 64 + tl ≡ c * y) where
    pub pair_less : c < n → e < n → y < 2 ^ 64 → z < 2 ^ 64 → uh < n + n
    pair_less lc le ly lz =
        let h = high_less (2 ^ 64) n uh ul 0 (rw eu (omega (arith, pair th tl c y e z et lc le ly lz))) in omega arith

    pub pair_is : (x p r : ℕ) → Reduced n (uh * 2 ^ 64 + ul) p → r ≡ (x + (n - (n - p))) % n → Reduced n (x * 2 ^ 64 + c * y + e * z) r
    pair_is x p r d er =
        let l = (open_reduced d).below in
        shut_reduced (record {
          below = rw er (mod-lt _ (open_form f).pos);
          is = c_trans (c_mul (c_trans (c_eq er) (c_trans (c_mod _) (c_eq {b = x + p} (omega arith)))) (c_refl {a = 2 ^ 64}))
              (c_trans (c_eq {b = x * 2 ^ 64 + p * 2 ^ 64} (omega arith)) (c_trans (c_add (c_refl {a = x * 2 ^ 64}) (open_reduced d).is)
              (c_eq (ap (λ (i : ℕ). x * 2 ^ 64 + i) (eu ∙ ap (λ (i : ℕ). i + e * z) et) ∙ round (c * y) (e * z)))));
        })
      where
        round : (u v : ℕ) → x * 2 ^ 64 + (u + v) ≡ x * 2 ^ 64 + u + v
        round u v = omega arith

  pub within : {t r : ℕ} → Reduced n t r → r ≤ n
  within d = let l = below d in omega arith

  pub negative_most : (p : ℕ) → n - p ≤ n
  negative_most p = omega arith

  pub negative_room : {t p x : ℕ} → Reduced n t p → x ≤ n → x < n + (n - p)
  negative_room d h = let l = below d in omega arith

pub ruleset words = (minus_is, sign_fits, low_fits, high_fits, mixed_fits, low_half)

pub ruleset inverses = (newton, no_inverse, five_steps)

pub ruleset carries = (carried_some, carried_none, product_is, half_fits, added_fits, added_is)

pub ruleset reductions = (form_small, residue_less, multiple_most, redc_is, below, entered_less, entered)

pub ruleset sums = (three_second, three_third, three_less, three_is)

pub ruleset pairs = (form_small, within, negative_most, negative_room, pair_room, pair_less, pair_is)

pub ruleset montgomery_rules = (rules, words, inverses, carries, reductions)
