-- Two polynomials times one unit: D of R f and R g is D of f and g, and cofactors leave times R, for any unit r.
--
--   scaled, scaled_at, scaled_times    r f, as words
--   reduced_unscaled       D of r f and r g is D of f and g
--   combination_unscaled   u (r f) + v (r g) = (r u) f + (r v) g
--   divides_scaled         what divides n and a word divides r times the word
--   nilpotent_unscaled     r x over c is nilpotent modulo n / c only where x over c is
--   pair_entered, pair_plain  words entered, or as they are
--   left_scaled, left_one  words times r
--   scalings               the rules
use mathlib.Core.Path.{◌≡◌, refl, sym, ap, subst, ◌∙◌}
use mathlib.Core.List.{List, map}
use mathlib.Core.Logic.{⊎_elim}
use Prim.Native.Nat.{ℕ, zero, suc, ◌+◌, ◌*◌, ◌/◌, ◌%◌, ◌^◌, ◌≤◌, ◌<◌, ◌∣◌}
use native.Mathlib.Omega.{arith}
use native.Mathlib.Nat.{mod-eq_of_lt, zero-mod, zero-add, zero-mul, mul-zero, mul-one, one-mul, mul_comm, mul_assoc, dvd-mod_iff}
use native.Mathlib.Nat.{dvd-mul_left, dvd-mul_left_of_dvd, mul-div_cancel'}
use lib.ListN.{length, get_or, get_or-map}
use Rattle.definitions.specs.Residues.{IsUnit, IsNilpotent}
use Rattle.definitions.specs.Polynomials.{coef, convolve}
use Rattle.definitions.specs.Resultants.{Combination, Reduced}
use Rattle.law_numbers.specs.Congruence.{Cong, c_refl, c_sym, c_trans, c_eq, c_add, c_mul, c_mod, c_dvd, ring}
use Rattle.law_numbers.specs.Nilpotents.{InRadical, nilpotent_radical, radical_nilpotent, radical_mul, radical_mod}
use Rattle.law_numbers.specs.Units.{inverse_times, unit_of}
use Rattle.law_polynomials.specs.ReachedSteps.{Times, coef_beyond, convolve_mod, convolve_scale, convolve_scale_left, drop_mod}
use Rattle.law_polynomials.specs.ReducedLaws.{reduced_flip}
use Rattle.windows.specs.Window.{Written, Moved, mulBy, Loaded}
use Rattle.windows.proofs.Leaf.{lt_or_le}
use Rattle.montgomery.specs.Held.{plain}
use Rattle.modulus.specs.declared.Modulus.{Modulus}
use Rattle.modulus.specs.Values.{Known, value, value_by, values, Enters}
use Rattle.modulus_windows.specs.LoopPromises.{Entered}
use Rattle.law_multipliers.specs.Reductions.{reduced_scaled}
use Rattle.reduced_attempt.specs.ReducedAttempts.{PairLoaded, LeaveAsked, Left}

-- ---- r f and r g

pub scaled : ℕ → List ℕ → List ℕ
scaled r f = map (λ (x : ℕ). r * x) f

pub scaled_at : (r : ℕ) (f : List ℕ) (k : ℕ) → coef (scaled r f) k ≡ r * coef f k
unfolding scaled
scaled_at r f k = ap (λ (z : ℕ). get_or (scaled r f) k z) (sym (mul-zero r)) ∙ get_or-map (λ (x : ℕ). r * x) f k 0

pub scaled_times : (n r : ℕ) (f : List ℕ) → Times n r (scaled r f) f
scaled_times n r f = record { at = λ k. ap (λ (x : ℕ). x % n) (scaled_at r f k) }

-- with the inverse, f is i (r f)
back : (n r : ℕ) (u : IsUnit n r) (f f' : List ℕ) → Times n r f' f → (k : ℕ) → coef f k % n ≡ (u.inverse * coef f' k) % n
back n r u f f' t k =
    (c_sym (c_trans (c_mul (c_refl {a = u.inverse}) (record { same = t.at k }))
    (c_trans (c_eq (sym (mul_assoc u.inverse r (coef f k)))) (c_trans (c_mul (inverse_times u) (c_refl {a = coef f k}))
    (c_eq (one-mul (coef f k))))))).same

pub reduced_unscaled : (n r D : ℕ) → 1 ≤ n → IsUnit n r → (f f' g g' : List ℕ) → Times n r f' f → Times n r g' g → Reduced n f' g' D
    → Reduced n f g D
reduced_unscaled n r D pos u f f' g g' tf tg x =
    reduced_scaled n u.inverse r pos f f' g D one (back n r u f f' tf)
    (reduced_flip n pos g f' D (reduced_scaled n u.inverse r pos g g' f' D one (back n r u g g' tg) (reduced_flip n pos f' g' D x)))
  where
    one : (r * u.inverse) % n ≡ 1 % n
    one = (c_trans (c_eq (mul_comm r u.inverse)) (inverse_times u)).same

pub combination_unscaled : (n r D : ℕ) → 1 ≤ n → (f f' g g' u v u' v' : List ℕ) → Times n r f' f → Times n r g' g → ((k : ℕ)
    → coef u' k ≡ (r * coef u k) % n)
    → ((k : ℕ) → coef v' k ≡ (r * coef v k) % n) → Combination n f' g' u v D → Combination n f g u' v' D
combination_unscaled n r D pos f f' g g' u v u' v' tf tg hu hv x = record {
  sum = λ k. (c_add (part f f' u u' tf hu k)
      (part g g' v v' tg hv k)).same ∙ x.sum k;
}
  where
    part : (f f' u u' : List ℕ) → Times n r f' f → ((k : ℕ) → coef u' k ≡ (r * coef u k) % n) → (k : ℕ)
        → Cong n (convolve (coef u') (coef f) k) (convolve (coef u) (coef f') k)
    part f f' u u' t h k =
        c_trans (record {
          same = convolve_mod n pos (coef u') (λ i. r * coef u i) (coef f) (coef f) (λ i. (c_trans (c_eq (h i))
              (c_mod (r * coef u i))).same) (λ i. refl) k;
        })
        (c_trans (c_eq (convolve_scale_left r (coef u) (coef f) k ∙ sym (convolve_scale r (coef u) (coef f) k)))
        (c_sym (record { same = convolve_mod n pos (coef u) (coef u) (coef f') (λ i. r * coef f i) (λ i. refl) t.at k })))

-- ---- words

pub divides_scaled : (n c r x : ℕ) → c ∣ n → c ∣ x % n → c ∣ (r * x) % n
divides_scaled n c r x d h = (dvd-mod_iff c {m = r * x} {n = n} d).1 (dvd-mul_left_of_dvd c ((dvd-mod_iff c {m = x} {n = n} d).0 h) r)

pub nilpotent_unscaled : (n c m r x : ℕ) → n ≡ c * m → 1 ≤ c → 1 ≤ m → IsUnit n r → c ∣ n → c ∣ x % n → (x % n) / c < m → IsNilpotent m
    (((r * x) % n) / c)
    → IsNilpotent m ((x % n) / c)
nilpotent_unscaled n c m r x whole c_pos m_pos u d h small nil =
    radical_nilpotent m_pos (subst (InRadical m) (word.same ∙ mod-eq_of_lt small) (radical_mod
    (radical_mul u.inverse (nilpotent_radical nil))))
  where
    over : Cong n (c * (((r * x) % n) / c)) (c * (r * ((x % n) / c)))
    over =
        c_trans (c_eq (mul-div_cancel' c (divides_scaled n c r x d h)))
        (c_trans (c_mod (r * x)) (c_trans (c_mul (c_refl {a = r}) (c_trans (c_sym (c_mod x)) (c_eq (sym (mul-div_cancel' c h))))) (c_eq
        (swap ((x % n) / c)))))
      where
        swap : (v : ℕ) → r * (c * v) ≡ c * (r * v)
        swap v = simp ring

    word : Cong m (u.inverse * (((r * x) % n) / c)) ((x % n) / c)
    word =
        c_trans (c_mul (c_refl {a = u.inverse}) (record {
          same = drop_mod c m (((r * x) % n) / c) (r * ((x % n) / c)) c_pos m_pos
              (subst (λ (v : ℕ). (c * (((r * x) % n) / c)) % v ≡ (c * (r * ((x % n) / c))) % v) whole over.same);
        }))
        (c_trans (c_eq (sym (mul_assoc u.inverse r ((x % n) / c))))
        (c_trans (c_mul (c_dvd (subst (λ (v : ℕ). m ∣ v) (sym whole) (dvd-mul_left m c)) (inverse_times u)) (c_refl {a = (x % n) / c}))
        (c_eq (one-mul ((x % n) / c)))))

-- ---- words loaded

unit_one : (n : ℕ) → 1 ≤ n → IsUnit n 1
unit_one n pos = unit_of 1 pos (c_eq (mul-one 1))

-- what x stands for is x times what 1 stands for
value_times : (m : Modulus) (x : ℕ) → Cong m.n (value m x) (x * value m 1)
unfolding value plain
value_times m x = go m.held m.n
  where
    go : (h n : ℕ) → Cong n (value_by h n x) (x * value_by h n 1)
    go zero n = c_eq (sym (mul-one x))
    go (suc h) n =
        c_trans (c_mod _)
        (c_mul (c_refl {a = x}) (c_trans (c_eq (sym (one-mul ((n / 2 + 1) ^ 32)))) (c_sym (c_mod (1 * (n / 2 + 1) ^ 32)))))

value_none : (m : Modulus) → value m 0 ≡ 0
unfolding value plain
value_none m = go m.held m.n
  where
    go : (h n : ℕ) → value_by h n 0 ≡ 0
    go zero n = refl
    go (suc h) n = ap (λ (x : ℕ). x % n) (zero-mul ((n / 2 + 1) ^ 32)) ∙ zero-mod n

values_word : (m : Modulus) (w : List ℕ) (i : ℕ) → get_or (values m w) i 0 ≡ value m (get_or w i 0)
unfolding values
values_word m w i = ap (λ (z : ℕ). get_or (values m w) i z) (sym (value_none m)) ∙ get_or-map (value m) w i 0

-- r is the word for 1: a unit, and the word for a is r a
module _ (m : Modulus) (r : ℕ) (known : Known m) (e : Enters m 1 r) where
  entered_one : Cong m.n (r * value m 1) 1
  entered_one = c_trans (c_sym (value_times m r)) (c_trans (c_eq e.1) (c_mod 1))

  entered_unit : IsUnit m.n r
  entered_unit = unit_of (value m 1) known.pos (c_trans (c_eq (mul_comm (value m 1) r)) entered_one)

  entered_word : (x a : ℕ) → x < m.n → value m x ≡ a % m.n → x ≡ (r * a) % m.n
  entered_word x a l h =
      sym (mod-eq_of_lt l)
      ∙ (c_trans (c_eq (sym (mul-one x))) (c_trans (c_mul (c_refl {a = x}) (c_sym entered_one))
      (c_trans (c_eq (round (value m 1))) (c_mul (c_refl {a = r}) (c_trans (c_sym (value_times m x)) (c_trans (c_eq h) (c_mod a))))))).same
    where
      round : (v : ℕ) → x * (r * v) ≡ r * (x * v)
      round v = omega arith

  entered_at : {a : ℕ} {f w w' : List ℕ} → Entered m a f w w' → (k : ℕ) → k < length f → get_or w' (a + k) 0 ≡ (r * coef f k) % m.n
  entered_at {a} {f} {w} {w'} en k h = entered_word _ _ (en.below.at k h) (sym (values_word m w' (a + k)) ∙ en.stands.mid k h)

  pub pair_entered : (j : ℕ) (f g w w₁ w₂ : List ℕ) → length f ≤ j → Entered m 0 f w w₁ → Entered m j g w₁ w₂
      → PairLoaded m.n r j f g w w₂
  pair_entered j f g w w₁ w₂ le ef eg = record {
    unit = entered_unit;
    same = eg.around.same ∙ ef.around.same;
    first = λ k h. eg.around.low k (omega arith) ∙ ap (λ (x : ℕ). get_or w₁ x 0) (sym (zero-add k)) ∙ entered_at ef k h;
    second = λ k h. entered_at eg k h;
    between = λ k p q. eg.around.low k q ∙ ef.around.high k (omega arith);
    high = λ k p. eg.around.high k p ∙ ef.around.high k (omega arith);
  }

plain_word : (n x : ℕ) → x % n ≡ (1 * x) % n
plain_word n x = ap (λ (v : ℕ). v % n) (sym (one-mul x))

loaded_written : {n a : ℕ} {f w w' : List ℕ} → Loaded n a f w w' → Written (λ (k : ℕ). get_or f k 0 % n) a (length f) w w'
loaded_written l = record { same = l.same; low = l.low; mid = l.mid; high = l.high }

pair_loaded : (n r j : ℕ) (f g : List ℕ) (F G : ℕ → ℕ) {w w₁ w₂ : List ℕ} → IsUnit n r → length f ≤ j
    → Written F 0 (length f) w w₁
    → Written G j (length g) w₁ w₂ → ((k : ℕ) → F k ≡ (r * coef f k) % n) → ((k : ℕ) → G k ≡ (r * coef g k) % n) → PairLoaded n r j f g w w₂
pair_loaded n r j f g F G {w} {w₁} {w₂} u le wf wg hf hg = record {
  unit = u;
  same = wg.same ∙ wf.same;
  first = λ k h. wg.low k (omega arith) ∙ ap (λ (x : ℕ). get_or w₁ x 0) (sym (zero-add k)) ∙ wf.mid k h ∙ hf k;
  second = λ k h. wg.mid k h ∙ hg k;
  between = λ k p q. wg.low k q ∙ wf.high k (omega arith);
  high = λ k p. wg.high k p ∙ wf.high k (omega arith);
}

pub pair_plain : (n j : ℕ) (f g : List ℕ) {w w₁ w₂ : List ℕ} → 1 ≤ n → length f ≤ j → Loaded n 0 f w w₁ → Loaded n j g w₁ w₂
    → PairLoaded n 1 j f g w w₂
pair_plain n j f g pos le lf lg =
    pair_loaded n 1 j f g _ _ (unit_one n pos) le (loaded_written lf) (loaded_written lg)
    (λ k. plain_word n (get_or f k 0)) (λ k. plain_word n (get_or g k 0))

pub pair_as_is : {n j : ℕ} {f g w w₁ w₂ : List ℕ} → 2 ≤ n → length f ≤ j → Loaded n 0 f w w₁ → Loaded n j g w₁ w₂
    → PairLoaded n 1 j f g w w₂
pair_as_is {n} {j} {f} {g} two le lf lg = pair_plain n j f g (omega arith) le lf lg

-- ---- words that leave

pub left_scaled : (n r : ℕ) (x x' : List ℕ) → Moved (mulBy n r) 0 0 (length x) x x' → Left n r x x'
left_scaled n r x x' mv = record {
  same = mv.same;
  at = λ k. ⊎_elim (λ h. ap (λ (v : ℕ). get_or x' v 0) (sym (zero-add k)) ∙ mv.mid k h ∙ ap (λ (v : ℕ). (r * get_or x v 0) % n) (zero-add k))
      (λ h. coef_beyond x' k (omega (arith, mv.same))
      ∙ sym (ap (λ (v : ℕ). (r * v) % n) (coef_beyond x k h) ∙ ap (λ (v : ℕ). v % n) (mul-zero r) ∙ zero-mod n))
      (lt_or_le k (length x));
}

pub left_one : (n r : ℕ) (x : List ℕ) → LeaveAsked n x → r ≡ 1 → Left n r x x
left_one n r x k e = record {
  same = refl;
  at = λ i. sym (ap (λ (v : ℕ). (v * coef x i) % n) e ∙ ap (λ (v : ℕ). v % n) (one-mul (coef x i)) ∙ mod-eq_of_lt (k.below i));
}

pub ruleset scalings = (pair_entered, pair_as_is, left_scaled, left_one)
