-- The laws of the resultant for words modulo n. A list counts by its length and by its words modulo n; nothing is asked of top words.
--
--   signed n k x, reversed f         x with the sign (-1)^k; the words in the other order
--   resultant_cong                   words that agree modulo n
--   resultant_drop_first, resultant_drop_second      R1: a zero top word
--   resultant_scale_first, resultant_scale_second    R2: a constant factor
--   resultant_add                    R3: q f added to g
--   resultant_swap, resultant_reversed               R4 and R5: exchanged; read from the other end
--   resultant_const_first, resultant_const_second    one is a constant
--   resultant_divide, resultant_short                R7 for any top word: g = q f + r; g shorter than f
--   resultant_multiplied, law_of_products            R6: f = a b; the product word list
--   resultant_mod, resultant_content, resultant_joined    modulo a divisor of n; a content; coprime moduli
--
-- Letters: m is n less 1; d, e are the sent degrees of f and g; c is a constant.
use Rattle.std.specs.Prelude.{◌≡◌, refl, List, ℕ, zero, suc, ◌<◌, ◌≤◌, ◌%◌, ◌^◌, ◌+◌, ◌*◌, ◌-◌, ℤ, pos}
use Rattle.std.proofs.Common.{sym, ◌∙◌, ap, ap₂, subst, pow-suc, mul_comm, mul-pos, mod-lt, arith}
use Rattle.std.proofs.Math.Path.{fun_ext}
use Rattle.std.specs.Int.{◌∣◌}
use native.Mathlib.Fin
use Rattle.std.proofs.Math.Decide.{dec_le}
use Rattle.std.proofs.Math.Nat.{pow-zero, mod-mod, pow-succ', dvd-mul_left, dvd_refl, dvd-mul_right}
use Rattle.definitions.specs.Polynomials.{coef, deg, tabulate, Multiplied, Divided, product}
use Rattle.definitions.specs.Residues.{Coprime}
use Rattle.definitions.specs.Resultants.{determinant, residue, sylvester, resultant}
use Rattle.law_algebra.specs.ProductLaw.{Rs_mul}
use Rattle.law_algebra.specs.Reduction.{reduce_hom, lower_reduce}
use Rattle.law_algebra.specs.Residues.{Res, toRes, Res_ring, mul_mod_l}
use Rattle.law_algebra.specs.Reverse.{rv, rv_at, rv_out}
use Rattle.law_algebra.specs.Ring.{pw}
use Rattle.law_algebra.specs.SentLaws.{Rs_drop_first, Rs_drop_second, Rs_scale_first, Rs_scale_second, Rs_swap, Rs_reverse}
use Rattle.law_algebra.specs.SentLaws.{Rs_const_first, Rs_const_second, Rs_divide, Rs_short, Rs, Rs_add_second}
use Rattle.law_algebra.specs.Series.{conv}
use Rattle.law_algebra.specs.Sum.{sgn}
use Rattle.law_numbers.specs.Chinese.{Joined, joined_unique}
use Rattle.law_polynomials.specs.ReachedSteps.{Times, times_mod, lift_mod}
use Rattle.law_polynomials.specs.Words.{words, words_out, convolve_is, resultant_is, coef_tabulate, length_tabulate}
use Rattle.law_polynomials.specs.Words.{divided_is, multiplied_is, words_cong, residue_reduce, words_product, deg_product}

-- x with the sign (-1)^k, modulo n
abbrev pub signed : ℕ → ℕ → ℕ → ℕ
signed n zero x = x
signed n (suc k) x = (n - signed n k x) % n

-- the words in the other order
abbrev pub reversed : List ℕ → List ℕ
reversed f = tabulate (suc (deg f)) (λ k. coef f (deg f - k))

module _ (m : ℕ) where
  pub signed_is : (k : ℕ) (x : Res m) → (sgn (Res_ring m) k x).0 ≡ signed (suc m) k x.0
  signed_is zero x = refl
  signed_is (suc k) x = ap (λ (y : ℕ). (suc m - y) % suc m) (signed_is k x)

  pub power_is : (c k : ℕ) → pw (Res_ring m) (toRes m c) k ≡ toRes m (c ^ k)
  power_is c zero = ap (toRes m) (sym (pow-zero c))
  power_is c (suc k) = ap ((Res_ring m).mul (toRes m c)) (power_is c k) ∙ sym ((reduce_hom m).h_mul (pos c) (pos (c ^ k)))
      ∙ ap (toRes m) (mul_comm c (c ^ k) ∙ sym (pow-suc c k))

  power_times : (c k : ℕ) (x : Res m) → ((Res_ring m).mul (pw (Res_ring m) (toRes m c) k) x).0 ≡ (c ^ k * x.0) % suc m
  power_times c k x = ap (λ (y : Res m). ((Res_ring m).mul y x).0) (power_is c k) ∙ mul_mod_l (c ^ k) x.0 (suc m)

  -- by degree and words
  at : (d e : ℕ) (f g : List ℕ) (F G : ℕ → Res m) → deg f ≡ d → deg g ≡ e → words m f ≡ F → words m g ≡ G
      → resultant (suc m) f g ≡ (Rs (Res_ring m) d e F G).0
  at d e f g F G hd he hf hg =
      resultant_is m f g ∙ ap₂ (λ (d e : ℕ). (Rs (Res_ring m) d e (words m f) (words m g)).0) hd he
      ∙ ap₂ (λ (F G : ℕ → Res m). (Rs (Res_ring m) d e F G).0) hf hg

  pub resultant_cong : (f f' g g' : List ℕ) → deg f ≡ deg f' → deg g ≡ deg g' → ((k : ℕ) → coef f k % suc m ≡ coef f' k % suc m)
      → ((k : ℕ) → coef g k % suc m ≡ coef g' k % suc m)
      → resultant (suc m) f g ≡ resultant (suc m) f' g'
  resultant_cong f f' g g' hd he hf hg =
      at (deg f') (deg g') f g (words m f') (words m g') hd he (words_cong m f f' hf) (words_cong m g g' hg) ∙ sym (resultant_is m f' g')

  -- R6
  pub resultant_multiplied : (f a b g : List ℕ) → deg f ≡ deg a + deg b → Multiplied (suc m) f a b
      → resultant (suc m) f g ≡ (resultant (suc m) a g * resultant (suc m) b g) % suc m
  resultant_multiplied f a b g h p =
      at (deg a + deg b) (deg g) f g (conv (Res_ring m) (words m a) (words m b)) (words m g) h refl (multiplied_is m f a b p) refl
      ∙ ap (λ (x : Res m). x.0) (Rs_mul m (deg a) (deg b) (deg g) (words m a) (words m b) (words m g) (words_out m a) (words_out m b))
      ∙ ap₂ (λ x y. (x * y) % suc m) (sym (resultant_is m a g)) (sym (resultant_is m b g))

  -- the product word list is the product
  product_multiplied : (f g : List ℕ) → Multiplied (suc m) (product (suc m) f g) f g
  product_multiplied f g = record { at = λ k. ap (λ (x : Res m). x.0) (words_product m f g k ∙ sym (convolve_is m (coef f) (coef g) k)) }

  -- R1
  pub resultant_drop_first : (f f' g : List ℕ) → deg f ≡ suc (deg f') → ((k : ℕ) → coef f k % suc m ≡ coef f' k % suc m)
      → resultant (suc m) f g ≡ signed (suc m) (deg g) ((coef g (deg g) * resultant (suc m) f' g) % suc m)
  resultant_drop_first f f' g h e =
      at (suc (deg f')) (deg g) f g (words m f') (words m g) h refl (words_cong m f f' e) refl
      ∙ ap (λ (x : Res m). x.0) (Rs_drop_first (Res_ring m) (deg f') (deg g) (words m f') (words m g)
      (words_out m f' (suc (deg f')) (omega arith)))
      ∙ signed_is (deg g) _
      ∙ ap (signed (suc m) (deg g)) (mul_mod_l (coef g (deg g)) _ (suc m)
      ∙ ap (λ x. (coef g (deg g) * x) % suc m) (sym (resultant_is m f' g)))

  pub resultant_drop_second : (f g g' : List ℕ) → deg g ≡ suc (deg g') → ((k : ℕ) → coef g k % suc m ≡ coef g' k % suc m)
      → resultant (suc m) f g ≡ (coef f (deg f) * resultant (suc m) f g') % suc m
  resultant_drop_second f g g' h e =
      at (deg f) (suc (deg g')) f g (words m f) (words m g') refl h refl (words_cong m g g' e)
      ∙ ap (λ (x : Res m). x.0) (Rs_drop_second (Res_ring m) (deg f) (deg g') (words m f) (words m g')
      (words_out m g' (suc (deg g')) (omega arith)))
      ∙ mul_mod_l (coef f (deg f)) _ (suc m) ∙ ap (λ x. (coef f (deg f) * x) % suc m) (sym (resultant_is m f g'))

  -- R2
  times_is : (c : ℕ) (f f' : List ℕ) → Times (suc m) c f f' → words m f ≡ (λ k. (Res_ring m).mul (toRes m c) (words m f' k))
  times_is c f f' t = fun_ext (λ k. Fin.val_path (t.at k) ∙ (reduce_hom m).h_mul (pos c) (pos (coef f' k)))

  pub resultant_scale_first : (c : ℕ) (f f' g : List ℕ) → deg f ≡ deg f' → Times (suc m) c f f'
      → resultant (suc m) f g ≡ (c ^ deg g * resultant (suc m) f' g) % suc m
  resultant_scale_first c f f' g h t =
      at (deg f') (deg g) f g _ (words m g) h refl (times_is c f f' t) refl
      ∙ ap (λ (x : Res m). x.0) (Rs_scale_first (Res_ring m) (deg f') (deg g) (toRes m c) (words m f') (words m g))
      ∙ power_times c (deg g) (Rs (Res_ring m) (deg f') (deg g) (words m f') (words m g))
      ∙ ap (λ x. (c ^ deg g * x) % suc m) (sym (resultant_is m f' g))

  pub resultant_scale_second : (c : ℕ) (f g g' : List ℕ) → deg g ≡ deg g' → Times (suc m) c g g'
      → resultant (suc m) f g ≡ (c ^ deg f * resultant (suc m) f g') % suc m
  resultant_scale_second c f g g' h t =
      at (deg f) (deg g') f g (words m f) _ refl h refl (times_is c g g' t)
      ∙ ap (λ (x : Res m). x.0) (Rs_scale_second (Res_ring m) (deg f) (deg g') (toRes m c) (words m f) (words m g'))
      ∙ power_times c (deg f) (Rs (Res_ring m) (deg f) (deg g') (words m f) (words m g'))
      ∙ ap (λ x. (c ^ deg f * x) % suc m) (sym (resultant_is m f g'))

  -- R4
  pub resultant_swap : (f g : List ℕ) → resultant (suc m) f g ≡ signed (suc m) (deg f * deg g) (resultant (suc m) g f)
  resultant_swap f g =
      resultant_is m f g ∙ ap (λ (x : Res m). x.0) (Rs_swap (Res_ring m) (deg f) (deg g) (words m f) (words m g))
      ∙ signed_is (deg f * deg g) _ ∙ ap (signed (suc m) (deg f * deg g)) (sym (resultant_is m g f))

  -- R5
  deg_reversed : (f : List ℕ) → deg (reversed f) ≡ deg f
  deg_reversed f = length_tabulate (deg f) (λ k. coef f (deg f - suc k))

  reversed_is : (f : List ℕ) → words m (reversed f) ≡ rv (Res_ring m) (deg f) (words m f)
  reversed_is f = fun_ext (λ k. go k (dec_le k (deg f)))
    where
      go : (k : ℕ) → Dec (k ≤ deg f) → words m (reversed f) k ≡ rv (Res_ring m) (deg f) (words m f) k
      go k (yes l) = ap (toRes m) (coef_tabulate (suc (deg f)) (λ k. coef f (deg f - k)) k (omega arith))
          ∙ sym (rv_at (Res_ring m) (deg f) (words m f) k (deg f - k) (omega arith))
      go k (no l) = words_out m (reversed f) k (omega (arith, deg_reversed f))
          ∙ sym (rv_out (Res_ring m) (deg f) (words m f) k (omega arith))

  pub resultant_reversed : (f g : List ℕ) → resultant (suc m) (reversed f) (reversed g) ≡ signed (suc m) (deg g * deg f)
      (resultant (suc m) f g)
  resultant_reversed f g =
      at (deg f) (deg g) (reversed f) (reversed g) _ _ (deg_reversed f) (deg_reversed g) (reversed_is f) (reversed_is g)
      ∙ ap (λ (x : Res m). x.0) (Rs_reverse (Res_ring m) (deg f) (deg g) (words m f) (words m g))
      ∙ signed_is (deg g * deg f) _ ∙ ap (signed (suc m) (deg g * deg f)) (sym (resultant_is m f g))

  -- constants
  pub resultant_const_first : (f g : List ℕ) → deg f ≡ 0 → resultant (suc m) f g ≡ (coef f 0 ^ deg g) % suc m
  resultant_const_first f g h =
      at 0 (deg g) f g (words m f) (words m g) h refl refl refl
      ∙ ap (λ (x : Res m). x.0) (Rs_const_first (Res_ring m) (deg g) (words m f) (words m g) ∙ power_is (coef f 0) (deg g))

  pub resultant_const_second : (f g : List ℕ) → deg g ≡ 0 → resultant (suc m) f g ≡ (coef g 0 ^ deg f) % suc m
  resultant_const_second f g h =
      at (deg f) 0 f g (words m f) (words m g) refl h refl refl
      ∙ ap (λ (x : Res m). x.0) (Rs_const_second (Res_ring m) (deg f) (words m f) (words m g) ∙ power_is (coef g 0) (deg f))

  -- R3: g' = q f + g
  pub resultant_add : (k : ℕ) (f g g' q : List ℕ) → deg q ≡ k → deg g ≡ k + deg f → deg g' ≡ k + deg f → Divided (suc m) g' f q g
      → resultant (suc m) f g' ≡ resultant (suc m) f g
  resultant_add k f g g' q hq hg hg' p =
      at (deg f) (k + deg f) f g' (words m f) _ refl hg' refl (divided_is m g' f q g p)
      ∙ ap (λ (x : Res m). x.0) (Rs_add_second (Res_ring m) (deg f) k (words m f) (words m g) (words m q) (words_out m f)
      (λ i l. words_out m q i (omega arith)))
      ∙ sym (at (deg f) (k + deg f) f g (words m f) (words m g) refl hg refl refl)

  -- R3 and R7: g = q f + r, r of deg f words
  pub resultant_divide : (k : ℕ) (f g q r : List ℕ) → deg f ≡ suc (deg r) → deg q ≡ k → deg g ≡ k + deg f → Divided (suc m) g f q r
      → resultant (suc m) f g ≡ (coef f (deg f) ^ suc k * resultant (suc m) r f) % suc m
  resultant_divide k f g q r hf hq hg p =
      at (suc (deg r)) (k + suc (deg r)) f g (words m f) _ hf (hg ∙ ap (λ x. k + x) hf) refl (divided_is m g f q r p)
      ∙ ap (λ (x : Res m). x.0) (Rs_divide (Res_ring m) (deg r) k (words m f) (words m q) (words m r)
      (λ i l. words_out m f i (omega arith)) (λ i l. words_out m q i (omega arith)) (words_out m r))
      ∙ power_times (coef f (suc (deg r))) (suc k) (Rs (Res_ring m) (deg r) (suc (deg r)) (words m r) (words m f))
      ∙ ap₂ (λ (x y : ℕ). (coef f x ^ suc k * y) % suc m) (sym hf)
      (sym (at (deg r) (suc (deg r)) r f (words m r) (words m f) refl hf refl refl))

  -- R7 without a division: g of fewer words, r the same polynomial in deg f words
  pub resultant_short : (k : ℕ) (f g r : List ℕ) → deg f ≡ suc (deg r) → k + deg g ≡ deg r → ((i : ℕ) → coef r i % suc m ≡ coef g i % suc m)
      → resultant (suc m) r f ≡ (coef f (deg f) ^ k * resultant (suc m) f g) % suc m
  resultant_short k f g r hf hg e =
      at (deg r) (suc (deg r)) r f (words m g) (words m f) refl hf (words_cong m r g e) refl
      ∙ ap (λ (x : Res m). x.0) (Rs_short (Res_ring m) (deg r) k (deg g) (words m f) (words m g) hg (words_out m g))
      ∙ power_times (coef f (suc (deg r))) k (Rs (Res_ring m) (suc (deg r)) (deg g) (words m f) (words m g))
      ∙ ap₂ (λ (x y : ℕ). (coef f x ^ k * y) % suc m) (sym hf)
      (sym (at (suc (deg r)) (deg g) f g (words m f) (words m g) hf refl refl refl))

-- THE LAW OF PRODUCTS for the resultant: that of the product word list with h is the product of the two resultants, for all word
-- lists
pub law_of_products : (n : ℕ) → 1 ≤ n → (f g h : List ℕ) → resultant n (product n f g) h ≡ (resultant n f h * resultant n g h) % n
law_of_products zero l f g h = absurd (omega arith)
law_of_products (suc m) l f g h = resultant_multiplied m (product (suc m) f g) f g h (deg_product (suc m) f g) (product_multiplied m f g)

-- modulo a divisor of the modulus
residue_mod : (d n : ℕ) → 1 ≤ d → 1 ≤ n → d ∣ n → (z : ℤ) → residue n z % d ≡ residue d z
residue_mod zero n p q h z = absurd (omega arith)
residue_mod (suc d) zero p q h z = absurd (omega arith)
residue_mod (suc d) (suc n) p q h z = ap (λ x. x % suc d) (residue_reduce n z) ∙ ap (λ (x : Res d). x.0) (lower_reduce n d h z)
    ∙ sym (residue_reduce d z)

pub resultant_mod : (d n : ℕ) → 1 ≤ d → 1 ≤ n → d ∣ n → (f g : List ℕ) → resultant n f g % d ≡ resultant d f g
unfolding resultant
resultant_mod d n p q h f g = residue_mod d n p q h (determinant (deg f + deg g) (sylvester f g))

-- f is c f' modulo c n, and deg g ≥ 1: the resultant of f' and g modulo n is enough
pub resultant_content : (c n : ℕ) → 1 ≤ c → 1 ≤ n → (f f' g : List ℕ) (e : ℕ) → deg f ≡ deg f' → deg g ≡ suc e → Times (c * n) c f f'
    → resultant (c * n) f g ≡ (c ^ deg g * resultant n f' g) % (c * n)
resultant_content c n p q f f' g e hf hg t =
    scale (c * n) (mul-pos p q) t
    ∙ ap (λ (x : ℕ). (c ^ x * resultant (c * n) f' g) % (c * n)) hg
    ∙ round (resultant (c * n) f' g)
    ∙ lift_mod c n _ _ p q (times_mod n (c ^ e) (resultant (c * n) f' g) (resultant n f' g) less)
    ∙ sym (round (resultant n f' g)) ∙ ap (λ (x : ℕ). (c ^ x * resultant n f' g) % (c * n)) (sym hg)
  where
    scale : (k : ℕ) → 1 ≤ k → Times k c f f' → resultant k f g ≡ (c ^ deg g * resultant k f' g) % k
    scale zero l t = absurd (omega arith)
    scale (suc k) l t = resultant_scale_first k c f f' g hf t

    less : resultant (c * n) f' g % n ≡ resultant n f' g % n
    less = sym (mod-mod (resultant (c * n) f' g) n) ∙ ap (λ x. x % n) (resultant_mod n (c * n) q (mul-pos p q) (dvd-mul_left n c) f' g)

    assoc : (c s x : ℕ) → c * s * x ≡ c * (s * x)
    assoc c s x = omega arith

    round : (x : ℕ) → (c ^ suc e * x) % (c * n) ≡ (c * (c ^ e * x)) % (c * n)
    round x = ap (λ y. y % (c * n)) (ap (λ y. y * x) (pow-succ' c e) ∙ assoc c (c ^ e) x)

-- coprime moduli: the residue that is the resultant modulo each of them
pub resultant_joined : {n₁ n₂ : ℕ} → 1 ≤ n₁ → 1 ≤ n₂ → Coprime n₁ n₂ → (f g : List ℕ) (x : ℕ)
    → Joined n₁ n₂ (resultant n₁ f g) (resultant n₂ f g) x → x ≡ resultant (n₁ * n₂) f g
resultant_joined {n₁} {n₂} p₁ p₂ c f g x j = joined_unique p₁ p₂ c j (record {
  below = subst (λ (y : ℕ). y < n₁ * n₂) (at_modulus (n₁ * n₂) (mul-pos p₁ p₂)) (mod-lt _ (mul-pos p₁ p₂));
  first = modulo n₁ p₁ (dvd-mul_right n₁ n₂);
  second = modulo n₂ p₂ (dvd-mul_left n₂ n₁);
})
  where
    at_modulus : (n : ℕ) → 1 ≤ n → resultant n f g % n ≡ resultant n f g
    at_modulus n l = resultant_mod n n l l (dvd_refl n) f g

    modulo : (d : ℕ) → 1 ≤ d → d ∣ n₁ * n₂ → resultant (n₁ * n₂) f g % d ≡ resultant d f g % d
    modulo d l h = resultant_mod d (n₁ * n₂) l (mul-pos p₁ p₂) h f g ∙ sym (at_modulus d l)
