-- Montgomery's reduction over any base B: a number t of two words times the inverse of the base modulo n, with k, the inverse of n modulo
-- the base. Nothing here knows a word's width.
--
--   IsForm B n k          k is the inverse of n modulo the base
--   IsSquare B n s        s is B² modulo n, at most n
--   IsHeld B n a h        h is a B modulo n, at most n: a multiplier a, held
--   IsReduced B n t r     r is the residue whose multiple by the base is t
--   base_cancel           the base may be taken away
--   multiple_below, multiple_reduced    the multiple of n whose low word is that of t, and what is left of t without it
--   held_is               a product with B², reduced, is a multiplier held
--   three_held, two_held  sums of words with held multipliers, reduced, are the sums with the multipliers
--   high_less, high_room, high_most, two_products, product_most    what the high word of a sum of products is below
use Rattle.std.specs.Prelude.{◌≡◌, ℕ, ◌+◌, ◌*◌, ◌/◌, ◌%◌, ◌<◌, ◌≤◌}
use Rattle.std.proofs.Common.{sym, ap, ◌∙◌, mod-lt, mod-eq_of_lt, mul-one, zero-add, div-add-mod', lt_of_mul-lt-mul_right, le_of_mul-le-mul_right, div-mul-le_self, mul-le-mul, mul-le-mul_left, mul-le-mul_right, arith}
use Rattle.std.specs.Int.{◌∣◌}
use Rattle.std.proofs.Math.Nat.{dvd-mul_right, dvd_trans}
use Rattle.law_numbers.specs.Congruence.{Cong, c_refl, c_sym, c_trans, c_eq, c_add, c_mul, c_mod, c_cancel, c_dvd, c_zero, ring}

pub record IsForm (B n k : ℕ) : Type 0 where
  pub pos : 0 < n
  pub half : n + n < B
  pub inverse : (n * k) % B ≡ 1

pub record IsSquare (B n s : ℕ) : Type 0 where
  pub most : s ≤ n
  pub is : Cong n s (B * B)

pub record IsHeld (B n a h : ℕ) : Type 0 where
  pub most : h ≤ n
  pub is : Cong n h (a * B)

pub record IsReduced (B n t r : ℕ) : Type 0 where
  pub below : r < n
  pub is : Cong n (r * B) t

module _ {B n k : ℕ} (f : IsForm B n k) where
  -- n divides a and a multiple of a B
  none : (a : ℕ) → Cong n (a + a * B * (n * k / B)) 0
  none a = c_trans (c_eq (sum (n * k / B) (div-add-mod' (n * k) B))) (c_zero (dvd-mul_right n (a * k)))
    where
      sum : (j : ℕ) → j * B + (n * k) % B ≡ n * k → a + a * B * j ≡ n * (a * k)
      sum j e =
          let g : a * (j * B + 1) ≡ a * (n * k) = ap (λ (z : ℕ). a * z) (ap (λ (z : ℕ). j * B + z) (sym f.inverse) ∙ e) in
          omega arith

  pub base_cancel : {a b : ℕ} → Cong n (a * B) (b * B) → Cong n a b
  base_cancel {a} {b} c =
      c_cancel (a * B * (n * k / B)) f.pos
      (c_trans (none a) (c_sym (c_trans (c_add (c_refl {a = b}) (c_mul c (c_refl {a = n * k / B}))) (none b))))

  module _ (lo q h : ℕ) (small : lo < B) (eq : q ≡ (lo * k) % B) (eh : h ≡ q * n / B) where
    low_word : (q * n) % B ≡ lo
    low_word =
        (c_trans (c_mul (c_trans (c_eq eq) (c_mod (lo * k))) (c_refl {a = n}))
        (c_trans (c_eq {b = lo * (n * k)} (simp ring))
        (c_trans (c_mul (c_refl {a = lo}) (c_trans (c_sym (c_mod (n * k))) (c_eq f.inverse))) (c_eq (mul-one lo))))).same
        ∙ mod-eq_of_lt small

    whole : h * B + lo ≡ n * q
    whole = rw eh (ap (λ (z : ℕ). q * n / B * B + z) (sym low_word) ∙ div-add-mod' (q * n) B ∙ omega arith)

    pub multiple_below : h < n
    multiple_below =
        lt_of_mul-lt-mul_right B (let e = whole in let l : q < B = rw eq (mod-lt (lo * k) (omega arith)) in
        let p = f.pos in omega (arith, mul-le-mul_right n l))

    pub multiple_reduced : (hi r : ℕ) → r < n → Cong n (r + h) hi → IsReduced B n (hi * B + lo) r
    multiple_reduced hi r l c = record {
      below = l;
      is = c_cancel (h * B + lo) f.pos
          (c_trans (c_eq {b = (r + h) * B + lo} (omega arith))
          (c_trans (c_add (c_mul c (c_refl {a = B})) (c_refl {a = lo}))
          (c_trans (c_eq {b = hi * B + lo + 0} (omega arith))
          (c_add (c_refl {a = hi * B + lo}) (c_sym (c_trans (c_eq whole) (c_zero (dvd-mul_right n q))))))));
    }

  pub held_is : {s r : ℕ} (a : ℕ) → IsSquare B n s → IsReduced B n (a * s) r → IsHeld B n a r
  held_is a q d = record {
    most = let l = d.below in omega arith;
    is = base_cancel (c_trans d.is (c_trans (c_mul (c_refl {a = a}) q.is) (c_eq {b = a * B * B} (simp ring))));
  }

  part : {a h : ℕ} → IsHeld B n a h → (x : ℕ) → Cong n (h * x) (a * x * B)
  part {a} {h} i x = c_trans (c_mul i.is (c_refl {a = x})) (c_eq (simp ring))

  residue_is : {r : ℕ} (a : ℕ) → r < n → Cong n (r * B) (a * B) → r ≡ a % n
  residue_is a l c = sym (mod-eq_of_lt l) ∙ (base_cancel c).same

  module _ {c e c' e' r : ℕ} (x y z : ℕ) (hc : IsHeld B n c c') (he : IsHeld B n e e') where
    pub three_held : {l l' : ℕ} → IsHeld B n l l' → IsReduced B n (l' * x + c' * y + e' * z) r → r ≡ (l * x + c * y + e * z) % n
    three_held {l} hl d =
        residue_is (l * x + c * y + e * z) d.below
        (c_trans d.is (c_trans (c_add (c_add (part hl x) (part hc y)) (part he z)) (c_eq (omega arith))))

    pub two_held : IsReduced B n (x * B + c' * y + e' * z) r → r ≡ (x + c * y + e * z) % n
    two_held d =
        residue_is (x + c * y + e * z) d.below
        (c_trans d.is (c_trans (c_add (c_add (c_refl {a = x * B}) (part hc y)) (part he z)) (c_eq (omega arith))))

-- ---- what the high word of a sum is below

pub high_less : (B n hi lo p : ℕ) → hi * B + lo + p < (n + n) * B → hi + p / B < n + n
high_less B n hi lo p l = lt_of_mul-lt-mul_right B (omega (arith, div-mul-le_self p B))

pub high_room : (B n hi lo p : ℕ) → n + n < B → hi * B + lo + p < (n + n) * B → hi + p / B + 1 < B
high_room B n hi lo p half l = let h = high_less B n hi lo p l in omega arith

pub high_most : (B q x h : ℕ) → q < B → h ≡ q * x / B → h ≤ x
high_most B q x h l e =
    le_of_mul-le-mul_right {k = B} (rw e (omega (arith, div-mul-le_self (q * x) B, mul-le-mul_right x l))) (omega arith)

pub two_products : {B n c y e z : ℕ} → 0 < n → n + n < B → c ≤ n → y < n → e ≤ n → z < n → c * y + e * z < n * B
two_products {B} {n} {c} {y} {e} {z} pos half lc ly le lz =
    omega (
      arith,
      mul-le-mul_left n half,
      mul-le-mul {n₁ = c} {m₁ = y} {n₂ = n} {m₂ = n} lc (omega arith),
      mul-le-mul {n₁ = e} {m₁ = z} {n₂ = n} {m₂ = n} le (omega arith),
    )

pub product_most : {B n c y : ℕ} → c ≤ n → y < B → c * y ≤ n * B
product_most {B} {n} {c} {y} l h = mul-le-mul {n₁ = c} {m₁ = y} {n₂ = n} {m₂ = B} l (omega arith)
