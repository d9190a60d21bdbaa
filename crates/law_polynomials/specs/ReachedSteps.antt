-- What changes polynomials and modulus and keeps the constants reached: a common content (D1), and a content of the second where the first
-- is monic (D4). With the laws of remainders and of sums of products that these rest on.
--
--   plus_mod, times_mod              sums and products of equal remainders
--   mul_mod_mul, lift_mod, drop_mod  remainders modulo n and modulo c n
--   convolve_mod, convolve_scale, convolve_scale_left, convolve_add_left    sums of products
--   convolve_constant, constant_scale    products with a constant
--   coef_whole, coef_beyond          a tabulated list; beyond the words
--   Times n c f f'                   f is c f' modulo n
--   content_both, content_divides, content_down, content_up    D1
--   monic_divides, monic_down, monic_up          D4
--
-- Letters: c is a content, C a constant; h is monic of degree t, r = c r'; u, v are multipliers; k is a place.
use Rattle.std.specs.Prelude.{◌≡◌, refl, List, ℕ, zero, suc, ◌<◌, ◌≤◌, ◌%◌, ◌/◌, ◌+◌, ◌*◌, ◌-◌, length}
use Rattle.std.proofs.Common.{sym, ◌∙◌, ap, ap₂, subst, mod-lt, mod-eq_of_lt, zero-lt-suc, zero-mul, add-zero, mul-le-mul, mul-pos, arith}
use Rattle.std.proofs.Math.Path.{fun_ext}
use Rattle.std.specs.Int.{◌∣◌}
use native.Mathlib.Fin
use Rattle.std.proofs.Math.Decide.{dec_lt}
use Rattle.std.proofs.Math.Nat.{zero-div, div-add-mod, add-mul-mod_self_left, mod-mod_of_dvd, mul-mod_right, dvd-mod_iff, dvd-mul_right, dvd_of_mod-eq-zero, mul-div_cancel', eq_of_mul-eq-mul_left}
use Rattle.std.proofs.Math.ListN.{get_or-eq_default}
use Rattle.definitions.specs.Polynomials.{coef, total, convolve, tabulate, constant}
use Rattle.definitions.specs.Resultants.{Reached}
use Rattle.law_algebra.specs.Division.{monic_zero, monic_rest}
use Rattle.law_algebra.specs.Residues.{Res, toRes, Res_ring}
use Rattle.law_algebra.specs.Ring.{add_neg, neg_neg, neg_zero}
use Rattle.law_algebra.specs.Series.{conv, Short, const}
use Rattle.law_numbers.specs.Congruence.{c_refl, c_add, c_mul}
use Rattle.law_polynomials.specs.ReachedLaws.{words_short}
use Rattle.law_polynomials.specs.Words.{words, convolve_is, convolve_zero, convolve_suc, coef_tabulate, length_tabulate, total_cong}

-- remainders
pub plus_mod : (n a b c d : ℕ) → a % n ≡ b % n → c % n ≡ d % n → (a + c) % n ≡ (b + d) % n
plus_mod n a b c d h g = (c_add {a = a} {b = b} {c = c} {d = d} (record { same = h }) (record { same = g })).same

pub times_mod : (n x a b : ℕ) → a % n ≡ b % n → (x * a) % n ≡ (x * b) % n
times_mod n x a b h = (c_mul (c_refl {a = x}) (record { same = h })).same

pub mul_mod_mul : (c s n : ℕ) → 1 ≤ c → 1 ≤ n → (c * s) % (c * n) ≡ c * (s % n)
mul_mod_mul c s n p q =
    ap (λ x. x % (c * n)) (ap (λ x. c * x) (sym (div-add-mod s n)) ∙ spread c n (s / n) (s % n))
    ∙ add-mul-mod_self_left (c * (s % n)) (c * n) (s / n) ∙ mod-eq_of_lt (less (s % n) (mod-lt s q))
  where
    spread : (c n x y : ℕ) → c * (n * x + y) ≡ c * y + c * n * x
    spread c n x y = omega arith

    less : (r : ℕ) → r < n → c * r < c * n
    less r l = let h : c * suc r ≤ c * n = mul-le-mul le_self l in omega arith
      where
        le_self : c ≤ c
        le_self = omega arith

pub lift_mod : (c n s t : ℕ) → 1 ≤ c → 1 ≤ n → s % n ≡ t % n → (c * s) % (c * n) ≡ (c * t) % (c * n)
lift_mod c n s t p q h = mul_mod_mul c s n p q ∙ ap (λ x. c * x) h ∙ sym (mul_mod_mul c t n p q)

pub drop_mod : (c n s t : ℕ) → 1 ≤ c → 1 ≤ n → (c * s) % (c * n) ≡ (c * t) % (c * n) → s % n ≡ t % n
drop_mod c n s t p q h = eq_of_mul-eq-mul_left c p (s % n) (t % n) (sym (mul_mod_mul c s n p q) ∙ h ∙ mul_mod_mul c t n p q)

-- sums of products
pub convolve_mod : (n : ℕ) → 1 ≤ n → (p p' q q' : ℕ → ℕ) → ((k : ℕ) → p k % n ≡ p' k % n) → ((k : ℕ) → q k % n ≡ q' k % n) → (k : ℕ)
    → convolve p q k % n ≡ convolve p' q' k % n
convolve_mod zero l p p' q q' h g k = absurd (omega arith)
convolve_mod (suc m) l p p' q q' h g k =
    ap (λ (x : Res m). x.0) (convolve_is m p q k ∙ ap₂ (λ (a b : ℕ → Res m). conv (Res_ring m) a b k) (fun_ext (λ i. Fin.val_path (h i)))
    (fun_ext (λ i. Fin.val_path (g i))) ∙ sym (convolve_is m p' q' k))

total_scale : (n c : ℕ) (F : ℕ → ℕ) → total n (λ i. c * F i) ≡ c * total n F
total_scale zero c F = omega arith
total_scale (suc n) c F = ap (λ x. c * F 0 + x) (total_scale n c (λ i. F (suc i))) ∙ omega arith

total_add : (n : ℕ) (F G : ℕ → ℕ) → total n (λ i. F i + G i) ≡ total n F + total n G
total_add zero F G = refl
total_add (suc n) F G = ap (λ x. F 0 + G 0 + x) (total_add n (λ i. F (suc i)) (λ i. G (suc i))) ∙ omega arith

pub convolve_scale : (c : ℕ) (p q : ℕ → ℕ) (k : ℕ) → convolve p (λ i. c * q i) k ≡ c * convolve p q k
convolve_scale c p q k = total_cong (suc k) _ _ (λ i l. round (p i) c (q (k - i))) ∙ total_scale (suc k) c (λ i. p i * q (k - i))
  where
    round : (p c q : ℕ) → p * (c * q) ≡ c * (p * q)
    round p c q = omega arith

pub convolve_scale_left : (c : ℕ) (p q : ℕ → ℕ) (k : ℕ) → convolve (λ i. c * p i) q k ≡ c * convolve p q k
convolve_scale_left c p q k = total_cong (suc k) _ _ (λ i l. round (p i) c (q (k - i))) ∙ total_scale (suc k) c (λ i. p i * q (k - i))
  where
    round : (p c q : ℕ) → c * p * q ≡ c * (p * q)
    round p c q = omega arith

pub convolve_add_left : (a b q : ℕ → ℕ) (k : ℕ) → convolve (λ i. a i + b i) q k ≡ convolve a q k + convolve b q k
convolve_add_left a b q k = total_cong (suc k) _ _ (λ i l. round (a i) (b i) (q (k - i)))
    ∙ total_add (suc k) (λ i. a i * q (k - i)) (λ i. b i * q (k - i))
  where
    round : (a b q : ℕ) → (a + b) * q ≡ a * q + b * q
    round a b q = omega arith

-- a constant times a polynomial
pub convolve_constant : (c : ℕ) (F : ℕ → ℕ) (k : ℕ) → convolve (constant c) F k ≡ c * F k
convolve_constant c F zero = convolve_zero (constant c) F
convolve_constant c F (suc k) =
    convolve_suc (constant c) F k
    ∙ ap (λ x. c * F (suc k) + x) (total_scale (suc k) 0 (λ i. F (k - i)) ∙ zero-mul (total (suc k) (λ i. F (k - i))))
    ∙ add-zero (c * F (suc k))

-- a tabulated list as coefficients, where the rest is 0
pub coef_whole : (n : ℕ) (F : ℕ → ℕ) → ((k : ℕ) → n ≤ k → F k ≡ 0) → (k : ℕ) → coef (tabulate n F) k ≡ F k
coef_whole n F z k = go (dec_lt k n)
  where
    go : Dec (k < n) → coef (tabulate n F) k ≡ F k
    go (yes l) = coef_tabulate n F k l
    go (no l) = get_or-eq_default (tabulate n F) 0 {n = k} (omega (arith, length_tabulate n F)) ∙ sym (z k (omega arith))

pub coef_beyond : (f : List ℕ) (k : ℕ) → length f ≤ k → coef f k ≡ 0
coef_beyond f k l = get_or-eq_default f 0 {n = k} l

pub constant_scale : (c d k : ℕ) → constant (c * d) k ≡ c * constant d k
constant_scale c d zero = refl
constant_scale c d (suc k) = omega arith

-- f is c f' modulo n
pub record Times (n c : ℕ) (f f' : List ℕ) : Type 0 where
  pub at : (k : ℕ) → coef f k % n ≡ (c * coef f' k) % n

convolve_times : (n c : ℕ) → 1 ≤ n → (u f f' : List ℕ) → Times n c f f' → (k : ℕ)
    → convolve (coef u) (coef f) k % n ≡ (c * convolve (coef u) (coef f') k) % n
convolve_times n c l u f f' t k = convolve_mod n l (coef u) (coef u) (coef f) (λ i. c * coef f' i) (λ i. refl) t.at k
    ∙ ap (λ x. x % n) (convolve_scale c (coef u) (coef f') k)

module _ (c n : ℕ) (c_pos : 1 ≤ c) (n_pos : 1 ≤ n) where
  cn_pos : 1 ≤ c * n
  cn_pos = mul-pos c_pos n_pos

  -- D1
  module _ (f f' g g' : List ℕ) (tf : Times (c * n) c f f') (tg : Times (c * n) c g g') where
    pub content_both : (u v : List ℕ) (k : ℕ) → (convolve (coef u) (coef f) k + convolve (coef v) (coef g) k) % (c * n) ≡
        (c * (convolve (coef u) (coef f') k + convolve (coef v) (coef g') k)) % (c * n)
    content_both u v k =
        plus_mod (c * n) _ _ _ _ (convolve_times (c * n) c cn_pos u f f' tf k) (convolve_times (c * n) c cn_pos v g g' tg k)
        ∙ ap (λ x. x % (c * n)) (round (convolve (coef u) (coef f') k) (convolve (coef v) (coef g') k))
      where
        round : (x y : ℕ) → c * x + c * y ≡ c * (x + y)
        round x y = omega arith

    pub content_divides : (C : ℕ) → Reached (c * n) f g C → c ∣ C
    content_divides C r =
        (dvd-mod_iff c {m = C} {n = c * n} (dvd-mul_right c n)).0
        (subst (λ (x : ℕ). c ∣ x) (sym (mul_mod_mul c _ n c_pos n_pos) ∙ sym (content_both r.u r.v 0) ∙ r.combination.sum 0)
        (dvd-mul_right c _))

    pub content_down : (C : ℕ) → Reached (c * n) f g (c * C) → Reached n f' g' C
    content_down C r = record {
      u = r.u;
      v = r.v;
      combination = record {
        sum = λ k. drop_mod c n _ _ c_pos n_pos
            (sym (content_both r.u r.v k) ∙ r.combination.sum k ∙ ap (λ x. x % (c * n)) (constant_scale c C k));
      };
    }

    pub content_up : (C : ℕ) → Reached n f' g' C → Reached (c * n) f g (c * C)
    content_up C r = record {
      u = r.u;
      v = r.v;
      combination = record {
        sum = λ k. content_both r.u r.v k ∙ lift_mod c n _ _ c_pos n_pos (r.combination.sum k)
            ∙ ap (λ x. x % (c * n)) (sym (constant_scale c C k));
      };
    }

  -- D4: h monic of degree t ≥ 1, r is c r'
  module _ (h r r' : List ℕ) (t : ℕ) (t_pos : 1 ≤ t) (top : coef h t % (c * n) ≡ 1 % (c * n))
      (above : (k : ℕ) → t < k → coef h k % (c * n) ≡ 0) (tr : Times (c * n) c r r') where
    down : (x y : ℕ) → x % (c * n) ≡ y % (c * n) → x % c ≡ y % c
    down x y e = sym (mod-mod_of_dvd c x (dvd-mul_right c n)) ∙ ap (λ z. z % c) e ∙ mod-mod_of_dvd c y (dvd-mul_right c n)

    -- u h is the constant modulo c
    lone : (C : ℕ) (x : Reached (c * n) h r C) (k : ℕ) → convolve (coef x.u) (coef h) k % c ≡ constant C k % c
    lone C x k =
        ap (λ y. y % c) (nought (convolve (coef x.u) (coef h) k))
        ∙ plus_mod c _ _ 0 (convolve (coef x.v) (coef r) k) refl
        (sym (down _ _ (convolve_times (c * n) c cn_pos x.v r r' tr k) ∙ mul-mod_right c _ ∙ sym (zero_mod c c_pos)))
        ∙ down _ _ (x.combination.sum k)
      where
        nought : (y : ℕ) → y ≡ y + 0
        nought y = omega arith

        zero_mod : (c : ℕ) → 1 ≤ c → 0 % c ≡ 0
        zero_mod c l = mod-eq_of_lt l

    ruled : (m : ℕ) → suc m ≡ c → (C : ℕ) (x : Reached (c * n) h r C) → ((k : ℕ) → words m x.u k ≡ toRes m 0) × (toRes m C ≡ toRes m 0)
    ruled m e C x = (
      monic_zero (Res_ring m) (length x.u) t (words m x.u) (words m h) rest (words_short m x.u) monic short_h short_rest eq,
      sym (neg_neg (Res_ring m) (toRes m C)) ∙ ap (Res_ring m).neg
          (monic_rest (Res_ring m) (length x.u) t (words m x.u) (words m h) rest (words_short m x.u) monic short_h short_rest eq 0)
          ∙ neg_zero (Res_ring m),
    )
      where
        rest : ℕ → Res m
        rest = const (Res_ring m) ((Res_ring m).neg (toRes m C))

        to : (x y : ℕ) → x % c ≡ y % c → toRes m x ≡ toRes m y
        to x y q = Fin.val_path (ap (λ (z : ℕ). x % z) e ∙ q ∙ ap (λ (z : ℕ). y % z) (sym e))

        monic : words m h t ≡ toRes m 1
        monic = to (coef h t) 1 (down _ _ top)

        short_h : Short (Res_ring m) (suc t) (words m h)
        short_h = record { out = λ k l. to (coef h k) 0 (down _ _ (above k (omega arith) ∙ sym (mod-eq_of_lt cn_pos))) }

        short_rest : Short (Res_ring m) t rest
        short_rest = record { out = go }
          where
            go : (k : ℕ) → t ≤ k → rest k ≡ toRes m 0
            go zero l = absurd (omega arith)
            go (suc k) l = refl

        same : (k : ℕ) → conv (Res_ring m) (words m x.u) (words m h) k ≡ toRes m (constant C k)
        same k = sym (convolve_is m (coef x.u) (coef h) k) ∙ to (convolve (coef x.u) (coef h) k) (constant C k) (lone C x k)

        eq : (k : ℕ) → (Res_ring m).add (conv (Res_ring m) (words m x.u) (words m h) k) (rest k) ≡ toRes m 0
        eq k = ap (λ (z : Res m). (Res_ring m).add z (rest k)) (same k) ∙ cancel k
          where
            cancel : (k : ℕ) → (Res_ring m).add (toRes m (constant C k)) (rest k) ≡ toRes m 0
            cancel zero = add_neg (Res_ring m) (toRes m C)
            cancel (suc k) = (Res_ring m).zero_add (toRes m 0)

    pred_of : (m : ℕ) × (suc m ≡ c)
    pred_of = (c - 1, omega arith)

    of_zero : (m x : ℕ) → suc m ≡ c → toRes m x ≡ toRes m 0 → c ∣ x
    of_zero m x e q = dvd_of_mod-eq-zero c (ap (λ (z : ℕ). x % z) (sym e) ∙ ap (λ (z : Res m). z.0) q ∙ mod-eq_of_lt (zero-lt-suc m))

    pub monic_divides : (C : ℕ) → Reached (c * n) h r C → c ∣ C
    monic_divides C x = of_zero pred_of.0 C pred_of.1 (ruled pred_of.0 pred_of.1 C x).1

    pub monic_down : (C : ℕ) → Reached (c * n) h r (c * C) → Reached n h r' C
    monic_down C x = record {
      u = tabulate (length x.u) (λ k. coef x.u k / c);
      v = x.v;
      combination = record {
        sum = λ k. drop_mod c n _ _ c_pos n_pos
            (sym (reversed k) ∙ x.combination.sum k ∙ ap (λ y. y % (c * n)) (constant_scale c C k));
      };
    }
      where
        u' : List ℕ
        u' = tabulate (length x.u) (λ k. coef x.u k / c)

        less : (k : ℕ) → coef u' k ≡ coef x.u k / c
        less k = coef_whole (length x.u) (λ k. coef x.u k / c) (λ k l. ap (λ y. y / c) (coef_beyond x.u k l) ∙ zero-div c) k

        whole : (k : ℕ) → coef x.u k ≡ c * coef u' k
        whole k =
            sym (ap (λ y. c * y) (less k) ∙ mul-div_cancel' c
            (of_zero pred_of.0 (coef x.u k) pred_of.1 ((ruled pred_of.0 pred_of.1 (c * C) x).0 k)))

        reversed : (k : ℕ) → (convolve (coef x.u) (coef h) k + convolve (coef x.v) (coef r) k) % (c * n) ≡
            (c * (convolve (coef u') (coef h) k + convolve (coef x.v) (coef r') k)) % (c * n)
        reversed k =
            plus_mod (c * n) _ _ _ _ (ap (λ y. y % (c * n)) (ap (λ (a : ℕ → ℕ). convolve a (coef h) k) (fun_ext whole)
            ∙ convolve_scale_left c (coef u') (coef h) k)) (convolve_times (c * n) c cn_pos x.v r r' tr k)
            ∙ ap (λ y. y % (c * n)) (round (convolve (coef u') (coef h) k) (convolve (coef x.v) (coef r') k))
          where
            round : (x y : ℕ) → c * x + c * y ≡ c * (x + y)
            round x y = omega arith

    pub monic_up : (C : ℕ) → Reached n h r' C → Reached (c * n) h r (c * C)
    monic_up C x = record {
      u = tabulate (length x.u) (λ k. c * coef x.u k);
      v = x.v;
      combination = record {
        sum = λ k.
            plus_mod (c * n) _ _ _ _ (ap (λ y. y % (c * n)) (ap (λ (a : ℕ → ℕ). convolve a (coef h) k) (fun_ext whole)
            ∙ convolve_scale_left c (coef x.u) (coef h) k)) (convolve_times (c * n) c cn_pos x.v r r' tr k)
            ∙ ap (λ y. y % (c * n)) (round (convolve (coef x.u) (coef h) k) (convolve (coef x.v) (coef r') k))
            ∙ lift_mod c n _ _ c_pos n_pos (x.combination.sum k) ∙ ap (λ y. y % (c * n)) (sym (constant_scale c C k));
      };
    }
      where
        whole : (k : ℕ) → coef (tabulate (length x.u) (λ k. c * coef x.u k)) k ≡ c * coef x.u k
        whole k = coef_whole (length x.u) (λ k. c * coef x.u k) (λ k l. ap (λ y. c * y) (coef_beyond x.u k l) ∙ none c) k
          where
            none : (c : ℕ) → c * 0 ≡ 0
            none c = omega arith

        round : (x y : ℕ) → c * x + c * y ≡ c * (x + y)
        round x y = omega arith
