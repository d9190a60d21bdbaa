-- What the resultant of two variables answers, and what it leaves in every lent word, over any width W. f is of degrees d in y and a in z,
-- g of e and b; B is the degree in z of the resultant.
--
--   bad_shape_of d a f                     a degree above 48, or a length that does not fit the degrees
--   small_factor n b                    some number from 2 to b divides n
--   bivariate_sent, bivariate_room      the refusals of what is sent, and those of B and the buffers
--   bivariate_refusals, bivariate_status    all of them in their order, and the number of the first that applies
--   SentTold, RoomTold      the number of the first of each part that applies
--   BivariateAnswer         all that is promised of a call
--   ServedShape, shape_fails, prime_fails    what passes the refusals 2 and 11
--   bivariate_listed              each refusal under its condition and no other
use Rattle.std.specs.Prelude.{◌≡◌, refl, Bool, true, false, not, cond, List, [], ◌∷◌, ◌++◌, ℕ, zero, suc, ◌+◌, ◌-◌, ◌*◌, ◌%◌, ◌<◌, ◌≤◌, ltb, eqb, length}
use Rattle.std.proofs.Common.{sym, subst, ◌∙◌, arith, eqb-true, eq-eqb}
use Rattle.std.specs.Int.{◌∣◌}
use Rattle.std.proofs.Math.Decide.{dec_lt}
use Rattle.std.proofs.Math.Nat.{dvd_of_mod-eq-zero, mod-eq-zero_of_dvd, dvd_trans, le_of_dvd}
use Rattle.definitions.specs.Polynomials.{tabulate, Residues}
use Rattle.definitions.specs.Bivariate.{bivariate_resultant_of, bivariate_degree}
use Rattle.law_numbers.specs.PrimeTable.{NoSmallPrime}
use Rattle.law_numbers.specs.Primes.{prime_of}
use Rattle.refusals.specs.Refusals.{Width, Tested, bad_modulus_of, all_below_of, short, first_refusal, left, replaced}
use Rattle.refusals.specs.Conditions.{Listed, Fails, ServedModulus, modulus_fails, words_fail, short_fails}
use Rattle.refusals.specs.Conditions.{yes_no, either_fails, equal_fails}

-- "A degree above 48, or a length that does not fit the degrees, is refused with 2": the words are d + 1 groups of a + 1
abbrev pub bad_shape_of : (d a : ℕ) → List ℕ → Bool
bad_shape_of d a f = cond (ltb 48 d) true (cond (ltb 48 a) true (not (eqb (length f) (suc d * suc a))))

-- some number from 2 to k + 1 divides n
abbrev pub divided_to : ℕ → ℕ → Bool
divided_to n zero = false
divided_to n (suc k) = cond (eqb (n % suc (suc k)) 0) true (divided_to n k)

-- "a modulus that some prime up to B divides": where a number from 2 to b divides n, so does a prime
abbrev pub small_factor : (n b : ℕ) → Bool
small_factor n b = divided_to n (b - 1)

-- 1, 2 and 3, f before g
abbrev pub bivariate_sent : Width → ℕ → List ℕ → (d a : ℕ) → List ℕ → (e b : ℕ) → List Tested
bivariate_sent W n f d a g e b =
    (1, bad_modulus_of W n) ∷ (2, bad_shape_of d a f) ∷ (2, bad_shape_of e b g) ∷ (3, not (all_below_of n f)) ∷ (3, not (all_below_of n g)) ∷ []

-- "It refuses with 12 a B above 60, then with 11 a modulus that some prime up to B divides, both after 3 and before 6 and 7." l and m are
-- the lengths of the result buffer and of the working buffer. "Its buffer needs B + 1 words."
abbrev pub bivariate_room : Width → (n B l m : ℕ) → List Tested
bivariate_room W n B l m = (12, ltb 60 B) ∷ (11, small_factor n B) ∷ (6, short l (suc B)) ∷ (7, short m W.working) ∷ []

abbrev pub bivariate_refusals : Width → ℕ → List ℕ → (d a : ℕ) → List ℕ → (e b : ℕ) → (l m : ℕ) → List Tested
bivariate_refusals W n f d a g e b l m = bivariate_sent W n f d a g e b ++ bivariate_room W n (bivariate_degree d a e b) l m

abbrev pub bivariate_status : Width → ℕ → List ℕ → (d a : ℕ) → List ℕ → (e b : ℕ) → (l m : ℕ) → ℕ
bivariate_status W n f d a g e b l m = first_refusal (bivariate_refusals W n f d a g e b l m)

-- s is the first refusal of what is sent; t is that of B and the buffers
pub record SentTold (W : Width) (n : ℕ) (f : List ℕ) (d a : ℕ) (g : List ℕ) (e b s : ℕ) : Type 0 where
  pub is : s ≡ first_refusal (bivariate_sent W n f d a g e b)

pub record RoomTold (W : Width) (n B l m t : ℕ) : Type 0 where
  pub is : t ≡ first_refusal (bivariate_room W n B l m)

-- "The answer is the resultant in y, a polynomial in z of B + 1 words"; "words beyond are unchanged". The value is 0: the words are the
-- answer.
pub record BivariateAnswer (W : Width) (n : ℕ) (f : List ℕ) (d a : ℕ) (g : List ℕ) (e b : ℕ) (out out' work work' : List ℕ)
    (value status : ℕ) : Type 0 where
  pub status_is : status ≡ bivariate_status W n f d a g e b (length out) (length work)
  pub value_is : value ≡ 0
  pub out_is : out' ≡ replaced status (tabulate (suc (bivariate_degree d a e b)) (bivariate_resultant_of n d a e b f g)) out
  pub work_is : work' ≡ left status work

-- ---- what the tests mean

-- "d in y and a in z, … each at most 48"; "d + 1 groups of a + 1 words"
pub record ServedShape (d a : ℕ) (f : List ℕ) : Type 0 where
  pub most_y : d ≤ 48
  pub most_z : a ≤ 48
  pub words : length f ≡ suc d * suc a

pub shape_fails : (d a : ℕ) (f : List ℕ) → Fails (bad_shape_of d a f) (ServedShape d a f)
shape_fails d a f =
    either_fails (short_fails 48 d) after (λ x p. record { most_y = x; most_z = p.0; words = p.1 }) (λ s. s.most_y)
    (λ s. (s.most_z, s.words))
  where
    after : Fails (cond (ltb 48 a) true (not (eqb (length f) (suc d * suc a)))) ((a ≤ 48) × (length f ≡ suc d * suc a))
    after = either_fails (short_fails 48 a) (equal_fails (length f) (suc d * suc a)) (λ y z. (y, z)) (λ p. p.0) (λ p. p.1)

-- no number from 2 to k + 1 divides n
none_divides : (n k : ℕ) → divided_to n k ≡ false → (t : ℕ) → 2 ≤ t → t ≤ suc k → t ∣ n → ⊥
none_divides n zero h t l q d = omega arith
none_divides n (suc k) h t l q d =
    go (eqb (n % suc (suc k)) 0) refl h (dec_lt t (suc (suc k))) (λ r s. none_divides n k r t l s d)
  where
    go : (x : Bool) → eqb (n % suc (suc k)) 0 ≡ x → cond x true (divided_to n k) ≡ false → Dec (t < suc (suc k))
        → (divided_to n k ≡ false → t ≤ suc k → ⊥) → ⊥
    go true e r c ih = yes_no refl r
    go false e r (yes c) ih = ih r (omega arith)
    go false e r (no c) ih =
        let s : t ≡ suc (suc k) = omega arith in
        yes_no (eq-eqb (n % suc (suc k)) 0 (mod-eq-zero_of_dvd (suc (suc k)) (subst (λ (x : ℕ). x ∣ n) s d))) e

-- some number from 2 to k + 1 does
record Divisor (n k : ℕ) : Type 0 where
  pub t : ℕ
  pub least : 2 ≤ t
  pub most : t ≤ suc k
  pub divides : t ∣ n

some_divides : (n k : ℕ) → divided_to n k ≡ true → Divisor n k
some_divides n zero h = yes_no h refl
some_divides n (suc k) h = go (eqb (n % suc (suc k)) 0) refl h (some_divides n k)
  where
    go : (x : Bool) → eqb (n % suc (suc k)) 0 ≡ x → cond x true (divided_to n k) ≡ true → (divided_to n k ≡ true → Divisor n k)
        → Divisor n (suc k)
    go true e r ih = record {
      t = suc (suc k);
      least = omega arith;
      most = omega arith;
      divides = dvd_of_mod-eq-zero (suc (suc k)) (eqb-true (n % suc (suc k)) 0 e);
    }
    go false e r ih =
        let s = ih r in
        record { t = s.t; least = s.least; most = let l = s.most in omega arith; divides = s.divides }

pub prime_fails : (n b : ℕ) → Fails (small_factor n b) (NoSmallPrime n b)
prime_fails n b = record {
  passed = λ h. record { none = λ p r l d. let big = r.above in none_divides n (b - 1) h p (omega arith) (omega arith) d };
  failed = λ h r.
      let s = some_divides n (b - 1) h in
      let low = s.least in
      let high = s.most in
      let q = prime_of s.t (omega arith) in
      let l : q.p ≤ s.t = le_of_dvd (omega arith) q.divides in
      r.none q.p q.prime (omega arith) (dvd_trans q.p q.divides s.divides);
}

-- the conditions of an answer: so `status_zero` and `status_is` (refusals/Conditions) say when the status is 0, and when it is k
abbrev pub bivariate_conditions : Width → ℕ → List ℕ → (d a : ℕ) → List ℕ → (e b : ℕ) → (l m : ℕ) → List (Type 0)
bivariate_conditions W n f d a g e b l m =
    ServedModulus W n ∷ ServedShape d a f ∷ ServedShape e b g ∷ Residues n f ∷ Residues n g ∷ (bivariate_degree d a e b ≤ 60)
    ∷ NoSmallPrime n (bivariate_degree d a e b) ∷ (suc (bivariate_degree d a e b) ≤ l) ∷ (W.working ≤ m) ∷ []

pub bivariate_listed : (W : Width) (n : ℕ) (f : List ℕ) (d a : ℕ) (g : List ℕ) (e b : ℕ) (l m : ℕ)
    → Listed (bivariate_refusals W n f d a g e b l m) (bivariate_conditions W n f d a g e b l m)
bivariate_listed W n f d a g e b l m = (
  (omega arith, modulus_fails W n),
  (
    (omega arith, shape_fails d a f),
    (
      (omega arith, shape_fails e b g),
      (
        (omega arith, words_fail n f),
        (
          (omega arith, words_fail n g),
          (
            (omega arith, short_fails 60 (bivariate_degree d a e b)),
            (
              (omega arith, prime_fails n (bivariate_degree d a e b)),
              ((omega arith, short_fails l (suc (bivariate_degree d a e b))), ((omega arith, short_fails m W.working), tt)),
            ),
          ),
        ),
      ),
    ),
  ),
)
