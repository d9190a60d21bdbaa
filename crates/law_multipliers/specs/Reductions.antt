-- The reduced resultant through the two stages. A has a leading unit, B is shorter: the content of B comes out as a factor, a unit factor
-- of B does not matter, A may be replaced by what it leaves on division by B; D is ν where B is 0, and 1 where B is a unit.
--
--   UnitLead n t f        coefficient t of f is a unit, and those above are 0
--   reduced_scaled        f = c h, c a unit
--   reduced_same, reduced_same_second    the words count modulo n only
--   reduced_unit_second   a unit factor of the second
--   reduced_step          a step of Euclid's algorithm
--   reduced_inverse, reduced_lead    D4 with a leading unit: the content of the second
--   reduced_unity, reduced_unit_constant    the second is 1, a unit
--
-- proofs/ZeroSecond has reduced_none: the second is 0.
use Rattle.std.specs.Prelude.{◌≡◌, refl, List, [], ◌∷◌, ℕ, zero, suc, ◌<◌, ◌≤◌, ◌%◌, ◌*◌, length}
use Rattle.std.proofs.Common.{sym, ◌∙◌, subst, mul-pos, zero-mul, mul-one, one-mul, mul_comm, zero-add, arith}
use Rattle.std.proofs.Math.Path.{ap, fun_ext}
use Rattle.std.proofs.Math.Nat.{dvd-mul_left, one-dvd, mul-zero, mul-mod_right, zero-mod}
use Rattle.definitions.specs.Residues.{IsUnit}
use Rattle.definitions.specs.Polynomials.{coef, convolve, tabulate, constant, Multiplied, Divided}
use Rattle.definitions.specs.Resultants.{Reduced}
use Rattle.law_numbers.specs.Congruence.{c_refl, c_sym, c_trans, c_eq, c_mul, c_dvd}
use Rattle.law_polynomials.specs.ReachedSteps.{plus_mod, times_mod, convolve_constant, constant_scale, coef_whole, coef_beyond, Times}
use Rattle.law_polynomials.specs.ReducedLaws.{InversePolynomial, reduced_monic, reduced_unit, reduced_rest, reduced_flip, reduced_one}

-- coefficient t is a unit, and those above are 0
pub record UnitLead (n t : ℕ) (f : List ℕ) : Type 0 where
  pub unit : IsUnit n (coef f t)
  pub above : (k : ℕ) → t < k → coef f k ≡ 0

-- one word, and no word, are constants
word_is : (c k : ℕ) → coef (c ∷ []) k ≡ constant c k
word_is c zero = refl
word_is c (suc k) = refl

empty_is : (k : ℕ) → coef [] k ≡ constant 0 k
empty_is zero = refl
empty_is (suc k) = refl

-- one word times a polynomial
convolve_word : (c : ℕ) (F : ℕ → ℕ) (k : ℕ) → convolve (coef (c ∷ [])) F k ≡ c * F k
convolve_word c F k = ap (λ (a : ℕ → ℕ). convolve a F k) (fun_ext (word_is c)) ∙ convolve_constant c F k

-- f is c h modulo n
constant_factor : (n c : ℕ) (f h : List ℕ) → ((k : ℕ) → coef f k % n ≡ (c * coef h k) % n) → Multiplied n f (c ∷ []) h
constant_factor n c f h e = record { at = λ k. e k ∙ ap (λ (x : ℕ). x % n) (sym (convolve_word c (coef h) k)) }

constant_inverse : (n c i : ℕ) → (i * c) % n ≡ 1 % n → InversePolynomial n (c ∷ []) (i ∷ [])
constant_inverse n c i e = record { at = λ k. ap (λ (x : ℕ). x % n) (convolve_word i (coef (c ∷ [])) k) ∙ go k }
  where
    go : (k : ℕ) → (i * coef (c ∷ []) k) % n ≡ constant 1 k % n
    go zero = e
    go (suc k) = ap (λ (x : ℕ). x % n) (mul-zero i)

-- f is c h, c a unit
pub reduced_scaled : (n c i : ℕ) → 1 ≤ n → (f h g : List ℕ) (D : ℕ) → (i * c) % n ≡ 1 % n
    → ((k : ℕ) → coef f k % n ≡ (c * coef h k) % n) → Reduced n h g D → Reduced n f g D
reduced_scaled n c i l f h g D u e = reduced_unit n l f (c ∷ []) (i ∷ []) h g D (constant_factor n c f h e) (constant_inverse n c i u)

-- only the words modulo n matter
pub reduced_same : (n : ℕ) → 1 ≤ n → (f h g : List ℕ) (D : ℕ) → ((k : ℕ) → coef f k % n ≡ coef h k % n) → Reduced n h g D → Reduced n f g D
reduced_same n l f h g D e = reduced_scaled n 1 1 l f h g D refl (λ k. e k ∙ ap (λ (x : ℕ). x % n) (sym (one-mul (coef h k))))

pub reduced_same_second : (n : ℕ) → 1 ≤ n → (f g h : List ℕ) (D : ℕ) → ((k : ℕ) → coef g k % n ≡ coef h k % n)
    → Reduced n f h D → Reduced n f g D
reduced_same_second n l f g h D e r = reduced_flip n l g f D (reduced_same n l g h f D e (reduced_flip n l f h D r))

-- a unit factor of the second
pub reduced_unit_second : (n : ℕ) → 1 ≤ n → (f g a i h : List ℕ) (D : ℕ) → Multiplied n g a h → InversePolynomial n a i
    → Reduced n f h D → Reduced n f g D
reduced_unit_second n l f g a i h D p q r = reduced_flip n l g f D (reduced_unit n l g a i h f D p q (reduced_flip n l f h D r))

-- a step of Euclid's algorithm
pub reduced_step : (n : ℕ) → 1 ≤ n → (f g q r : List ℕ) (D : ℕ) → Divided n f g q r → Reduced n g r D → Reduced n f g D
reduced_step n l f g q r D d x = reduced_flip n l g f D (reduced_rest n l g f q r D d x)

-- the second is 1
pub reduced_unity : (n : ℕ) → 1 ≤ n → (f g : List ℕ) → ((k : ℕ) → coef g k % n ≡ constant 1 k % n) → Reduced n f g 1
reduced_unity n l f g e = record {
  divides = one-dvd n;
  least = omega arith;
  most = l;
  only = λ C _ _. one-dvd C;
  all = λ C _ _. record {
    u = [];
    v = C ∷ [];
    combination = record {
      sum = λ k.
          plus_mod n _ 0 _ (constant C k) (ap (λ (x : ℕ). x % n) (none k)) (multiple C k)
          ∙ ap (λ (x : ℕ). x % n) (zero-add (constant C k));
    };
  };
}
  where
    -- C g is C
    multiple : (C k : ℕ) → convolve (coef (C ∷ [])) (coef g) k % n ≡ constant C k % n
    multiple C k =
        ap (λ (x : ℕ). x % n) (convolve_word C (coef g) k)
        ∙ times_mod n C (coef g k) (constant 1 k) (e k)
        ∙ ap (λ (x : ℕ). x % n) (sym (constant_scale C 1 k) ∙ ap (λ (c : ℕ). constant c k) (mul-one C))

    none : (k : ℕ) → convolve (coef []) (coef f) k ≡ 0
    none k = ap (λ (a : ℕ → ℕ). convolve a (coef f) k) (fun_ext empty_is) ∙ convolve_constant 0 (coef f) k ∙ zero-mul (coef f k)

-- the second is a unit of the ring
pub reduced_unit_constant : (n i : ℕ) → 1 ≤ n → (f g : List ℕ) → ((k : ℕ) → 0 < k → coef g k ≡ 0) → (i * coef g 0) % n ≡ 1 % n
    → Reduced n f g 1
reduced_unit_constant n i l f g z u =
    reduced_flip n l g f 1
    (reduced_scaled n (coef g 0) i l g (1 ∷ []) f 1 u (λ k. ap (λ (x : ℕ). x % n) (is k))
    (reduced_flip n l f (1 ∷ []) 1 (reduced_unity n l f (1 ∷ []) (λ k. ap (λ (x : ℕ). x % n) (word_is 1 k)))))
  where
    is : (k : ℕ) → coef g k ≡ coef g 0 * coef (1 ∷ []) k
    is zero = sym (mul-one (coef g 0))
    is (suc k) = z (suc k) (omega arith) ∙ sym (mul-zero (coef g 0))

-- D4 with the inverse i of the leading word
module _ (c n t : ℕ) (c_pos : 1 ≤ c) (n_pos : 1 ≤ n) (t_pos : 1 ≤ t) (f : List ℕ) (i : ℕ) (inverse : (i * coef f t) % (c * n) ≡ 1 % (c * n))
    (above : (k : ℕ) → t < k → coef f k ≡ 0) where
  -- f over its leading unit
  monic : List ℕ
  monic = tabulate (length f) (λ k. i * coef f k)

  monic_at : (k : ℕ) → coef monic k ≡ i * coef f k
  unfolding monic
  monic_at k = coef_whole (length f) (λ k. i * coef f k) (λ k l. ap (λ (x : ℕ). i * x) (coef_beyond f k l) ∙ mul-zero i) k

  back : (k : ℕ) → coef f k % (c * n) ≡ (coef f t * coef monic k) % (c * n)
  back k =
      ap (λ (x : ℕ). x % (c * n)) (sym (one-mul (coef f k)))
      ∙ one_times ∙ ap (λ (x : ℕ). x % (c * n)) (round i (coef f t) (coef f k) ∙ ap (λ (x : ℕ). coef f t * x) (sym (monic_at k)))
    where
      round : (i l x : ℕ) → i * l * x ≡ l * (i * x)
      round i l x = omega arith

      one_times : (1 * coef f k) % (c * n) ≡ (i * coef f t * coef f k) % (c * n)
      one_times = (c_mul (c_sym (record { same = inverse })) (c_refl {a = coef f k})).same

  pub reduced_inverse : (s s' : List ℕ) (E : ℕ) → Times (c * n) c s s' → Reduced n f s' E → Reduced (c * n) f s (c * E)
  reduced_inverse s s' E tr x =
      reduced_scaled (c * n) (coef f t) i (mul-pos c_pos n_pos) f monic s (c * E) inverse back
      (reduced_monic c n E monic s s' t c_pos n_pos t_pos (ap (λ (x : ℕ). x % (c * n)) (monic_at t) ∙ inverse)
      (λ k l. ap (λ (x : ℕ). x % (c * n)) (monic_at k ∙ ap (λ (x : ℕ). i * x) (above k l) ∙ mul-zero i) ∙ zero-mod (c * n))
      tr (reduced_scaled n i (coef f t) n_pos monic f s' E swapped (λ k. ap (λ (x : ℕ). x % n) (monic_at k)) x))
    where
      swapped : (coef f t * i) % n ≡ 1 % n
      swapped = (c_trans (c_eq (mul_comm (coef f t) i)) (c_dvd (dvd-mul_left n c) (record { same = inverse }))).same

-- D4 with a leading unit: r is c r'
module _ (c n t : ℕ) (c_pos : 1 ≤ c) (n_pos : 1 ≤ n) (t_pos : 1 ≤ t) (f : List ℕ) (lead : UnitLead (c * n) t f) where
  pub reduced_lead : (r r' : List ℕ) (D : ℕ) → Times (c * n) c r r' → Reduced n f r' D → Reduced (c * n) f r (c * D)
  reduced_lead =
      reduced_inverse c n t c_pos n_pos t_pos f lead.unit.inverse
      (ap (λ (x : ℕ). x % (c * n)) (mul_comm lead.unit.inverse (coef f t)) ∙ lead.unit.is.one) lead.above
