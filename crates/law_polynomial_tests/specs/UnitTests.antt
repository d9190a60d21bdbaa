-- The tests of the refusals 4 and 5, as Booleans that compute, and that they are what S29 says.
--
--   is_unit, is_nilpotent       some residue is the inverse; the K-th power is 0
--   lead_place n f              the place of the highest coefficient that is not nilpotent, 0 where there is none
--   has_lead n f                that coefficient is a unit: "some coefficient t is a unit and all above it are nilpotent"
--   is_unit_polynomial n f      "constant a unit, all other coefficients nilpotent"
--   unit_test, nilpotent_test, lead_test, polynomial_test, and test_unit, …     each test and its meaning are one
--   lead_unique                 the coefficient t of "unit times monic" is at the leading place
--   UnitSomewhere               "some coefficient t is a unit and all above it are nilpotent"
--   unit_fails, lead_fails, polynomial_fails    the refusals 4 and 5, each under its condition and no other, modulo any n
use Rattle.std.specs.Prelude.{◌≡◌, refl, Bool, true, false, not, cond, List, ℕ, zero, suc, pred, ◌-◌, ◌*◌, ◌%◌, ◌^◌, ◌<◌, ◌≤◌, T, eqb, length}
use Rattle.std.proofs.Common.{sym, ap, subst, ◌∙◌, ⊎_elim, eq-or-lt_of_le, arith, eqb-true, eq-eqb, ne_eqb}
use Rattle.std.proofs.Math.Nat.{mod-one}
use Rattle.std.proofs.Math.Decide.{dec_lt, ℕ_discrete}
use Rattle.std.proofs.Math.ListN.{get_or-eq_default}
use Rattle.definitions.specs.Residues.{K, IsUnit, IsNilpotent}
use Rattle.definitions.specs.Polynomials.{coef, UnitAt, UnitPolynomial}
use Rattle.law_numbers.specs.Divisors.{GcdCofactor}
use Rattle.law_numbers.specs.Units.{cofactor_inverse, gcd_of_coprime, coprime_of_unit}
use Rattle.law_numbers.specs.Kinds.{unit_not_nilpotent}
use Rattle.law_numbers.specs.Nilpotents.{nilpotent_power, radical_nilpotent, radical_zero}
use Rattle.refusals.specs.Conditions.{Fails, fails}
use Rattle.law_polynomial_tests.specs.Counts.{last_count, count_is, count_above}

-- P is true at some number below m
abbrev pub some_below : ℕ → (ℕ → Bool) → Bool
some_below zero P = false
some_below (suc m) P = cond (P m) true (some_below m P)

-- S13: "unit with its inverse": some residue times a is 1
abbrev pub is_unit : ℕ → ℕ → Bool
is_unit n a = some_below n (λ i. eqb ((a * i) % n) (1 % n))

-- S13: "Nilpotent: some power is 0", and then the K-th is
abbrev pub is_nilpotent : ℕ → ℕ → Bool
is_nilpotent n a = eqb ((a ^ K n) % n) 0

-- the number of words up to the highest that is not nilpotent
abbrev pub lead_count : ℕ → List ℕ → ℕ
lead_count n f = last_count (is_nilpotent n) f

-- its place: the t of "some coefficient t is a unit and all above it are nilpotent", where there is one
abbrev pub lead_place : ℕ → List ℕ → ℕ
lead_place n f = pred (lead_count n f)

-- S29: "5: unit times monic, no coefficient t as described": false there
abbrev pub has_lead : ℕ → List ℕ → Bool
has_lead n f = is_unit n (coef f (lead_place n f))

-- S29: "5: … inverse, not a unit polynomial": false there
abbrev pub is_unit_polynomial : ℕ → List ℕ → Bool
is_unit_polynomial n f = cond (has_lead n f) (eqb (lead_place n f) 0) false

-- ---- units

some_true : (m : ℕ) (P : ℕ → Bool) → some_below m P ≡ true → (i : ℕ) × ((i < m) × (P i ≡ true))
some_true zero P h = absurd (subst T (sym h) tt)
some_true (suc m) P h = pick (P m) refl h (some_true m P)
  where
    pick : (t : Bool) → P m ≡ t → cond t true (some_below m P) ≡ true → (some_below m P ≡ true → (i : ℕ) × ((i < m) × (P i ≡ true)))
        → (i : ℕ) × ((i < suc m) × (P i ≡ true))
    pick true e q ih = (m, (omega arith, e))
    pick false e q ih = let r = ih q in (r.0, (omega (arith, r.1.0), r.1.1))

some_at : (m i : ℕ) (P : ℕ → Bool) → i < m → P i ≡ true → some_below m P ≡ true
some_at zero i P l h = absurd (omega arith)
some_at (suc m) i P l h =
    ⊎_elim
    (λ e. ap (λ (t : Bool). cond t true (some_below m P)) (subst (λ (x : ℕ). P x ≡ true) e h))
    (λ b. either (P m) (some_at m i P b h))
    (eq-or-lt_of_le (let z : i ≤ m = omega arith in z))
  where
    either : (t : Bool) {u : Bool} → u ≡ true → cond t true u ≡ true
    either true e = refl
    either false e = e

-- a test that cannot be true is false
pub no_test : (t : Bool) → (t ≡ true → ⊥) → t ≡ false
no_test true h = absurd (h refl)
no_test false h = refl

pub test_unit : {n a : ℕ} → is_unit n a ≡ true → IsUnit n a
test_unit {n} {a} h =
    let r = some_true n (λ i. eqb ((a * i) % n) (1 % n)) h in
    record { inverse = r.0; is = record { below = r.1.0; one = eqb-true _ _ r.1.1 } }

pub unit_test : {n a : ℕ} → IsUnit n a → is_unit n a ≡ true
unit_test {n} {a} u = some_at n u.inverse (λ i. eqb ((a * i) % n) (1 % n)) u.is.below (eq-eqb _ _ u.is.one)

-- by the greatest common divisor with n
pub unit_gcd : {n a g s : ℕ} → 2 ≤ n → GcdCofactor n a g s → is_unit n a ≡ eqb g 1
unit_gcd {n} {a} {g} {s} l c = pick (ℕ_discrete g 1)
  where
    pick : Dec (g ≡ 1) → is_unit n a ≡ eqb g 1
    pick (yes e) = unit_test (record { inverse = s; is = cofactor_inverse l c e }) ∙ sym (eq-eqb g 1 e)
    pick (no e) = no_test (is_unit n a) (λ t. e (gcd_of_coprime (coprime_of_unit (test_unit t)) c.gcd)) ∙ sym (ne_eqb g 1 e)

-- ---- nilpotents

pub test_nilpotent : {n a : ℕ} → is_nilpotent n a ≡ true → IsNilpotent n a
test_nilpotent {n} {a} h = record { exponent = K n; power = eqb-true _ _ h }

pub nilpotent_test : {n a : ℕ} → 1 ≤ n → IsNilpotent n a → is_nilpotent n a ≡ true
nilpotent_test l x = eq-eqb _ _ (nilpotent_power l x)

-- ---- the leading coefficient

beyond : (n k : ℕ) (f : List ℕ) → 1 ≤ n → length f ≤ k → IsNilpotent n (coef f k)
beyond n k f l h = subst (IsNilpotent n) (sym (get_or-eq_default f 0 h)) (radical_nilpotent l (radical_zero n))

zero_no_unit : {n a : ℕ} → 2 ≤ n → a ≡ 0 → IsUnit n a → ⊥
zero_no_unit {n} {a} l e u = unit_not_nilpotent l u (subst (IsNilpotent n) (sym e) (radical_nilpotent (omega arith) (radical_zero n)))

-- the coefficients above the leading place are nilpotent
pub above_lead : (n : ℕ) (f : List ℕ) → 1 ≤ n → (k : ℕ) → lead_place n f < k → IsNilpotent n (coef f k)
above_lead n f l k h = pick (dec_lt k (length f))
  where
    counted : (c : ℕ) → pred c < k → c ≤ k
    counted zero b = omega arith
    counted (suc c) b = b

    pick : Dec (k < length f) → IsNilpotent n (coef f k)
    pick (yes b) = test_nilpotent (count_above (is_nilpotent n) f k (counted (lead_count n f) h) b)
    pick (no b) = beyond n k f l (omega arith)

-- S17: "some coefficient t is a unit and all above it are nilpotent"
pub test_lead : {n : ℕ} {f : List ℕ} → 1 ≤ n → has_lead n f ≡ true → UnitAt n (lead_place n f) f
test_lead {n} {f} l h = record { unit = test_unit h; nilpotent = above_lead n f l }

-- and it is at one place
pub lead_unique : (n t : ℕ) (f : List ℕ) → 2 ≤ n → UnitAt n t f → lead_place n f ≡ t
lead_unique n t f l u = ap pred (sym (count_is (is_nilpotent n) f (suc t) inside (λ j b h. nilpotent_test (omega arith) (u.nilpotent j b))
    (λ _. subst (λ (x : ℕ). is_nilpotent n (coef f x) ≡ false) (let z : t ≡ suc t - 1 = omega arith in z)
    (no_test (is_nilpotent n (coef f t)) (λ e. unit_not_nilpotent l u.unit (test_nilpotent e))))))
  where
    inside : suc t ≤ length f
    inside = pick (dec_lt t (length f))
      where
        pick : Dec (t < length f) → suc t ≤ length f
        pick (yes b) = b
        pick (no b) = absurd (zero_no_unit l (get_or-eq_default f 0 (omega arith)) u.unit)

pub lead_test : (n t : ℕ) (f : List ℕ) → 2 ≤ n → UnitAt n t f → has_lead n f ≡ true
lead_test n t f l u = subst (λ (x : ℕ). is_unit n (coef f x) ≡ true) (sym (lead_unique n t f l u)) (unit_test u.unit)

-- S16: "Unit polynomial: constant a unit, all other coefficients nilpotent."
pub test_polynomial : {n : ℕ} {f : List ℕ} → 1 ≤ n → is_unit_polynomial n f ≡ true → UnitPolynomial n f
test_polynomial {n} {f} l h = pick (has_lead n f) refl h
  where
    pick : (t : Bool) → has_lead n f ≡ t → cond t (eqb (lead_place n f) 0) false ≡ true → UnitPolynomial n f
    pick true e q =
        let z : lead_place n f ≡ 0 = eqb-true _ _ q in
        record {
          unit = subst (λ (x : ℕ). IsUnit n (coef f x)) z (test_unit e);
          nilpotent = λ k b. above_lead n f l k
              (subst (λ (x : ℕ). x < k) (sym z) b);
        }
    pick false e q = absurd (subst T (sym q) tt)

pub polynomial_test : (n : ℕ) (f : List ℕ) → 2 ≤ n → UnitPolynomial n f → is_unit_polynomial n f ≡ true
polynomial_test n f l u =
    let a : UnitAt n 0 f = record { unit = u.unit; nilpotent = u.nilpotent } in
    ap (λ (t : Bool). cond t (eqb (lead_place n f) 0) false) (lead_test n 0 f l a) ∙ eq-eqb _ _ (lead_unique n 0 f l a)

-- ---- the refusals 4 and 5

-- S29: "4: division, the divisor's top word is not a unit."
pub unit_fails : (n a : ℕ) → Fails (not (is_unit n a)) (IsUnit n a)
unit_fails n a = fails (is_unit n a) test_unit unit_test

-- modulo 1 every residue is a unit
unit_one : (a : ℕ) → is_unit 1 a ≡ true
unit_one a = unit_test (record { inverse = 0; is = record { below = omega arith; one = mod-one (a * 0) } })

-- "some coefficient t is a unit and all above it are nilpotent"
pub record UnitSomewhere (n : ℕ) (f : List ℕ) : Type 0 where
  pub place : ℕ
  pub here : UnitAt n place f

-- S29: "5: unit times monic, no coefficient t as described"
pub lead_fails : (n : ℕ) (f : List ℕ) → Fails (not (has_lead n f)) (UnitSomewhere n f)
lead_fails zero f = fails (has_lead 0 f) (λ e. absurd (subst T (sym e) tt)) (λ u. absurd (let z = u.here.unit.is.below in omega arith))
lead_fails (suc zero) f =
    fails (has_lead 1 f) (λ e. record { place = lead_place 1 f; here = test_lead (omega arith) e })
    (λ _. unit_one (coef f (lead_place 1 f)))
lead_fails (suc (suc n)) f =
    fails (has_lead (suc (suc n)) f) (λ e. record { place = lead_place (suc (suc n)) f; here = test_lead (omega arith) e })
    (λ u. lead_test (suc (suc n)) u.place f (omega arith) u.here)

-- S29: "5: … inverse, not a unit polynomial"
pub polynomial_fails : (n : ℕ) (f : List ℕ) → Fails (not (is_unit_polynomial n f)) (UnitPolynomial n f)
polynomial_fails zero f =
    fails (is_unit_polynomial 0 f) (λ e. absurd (subst T (sym e) tt)) (λ u. absurd (let z = u.unit.is.below in omega arith))
polynomial_fails (suc zero) f = fails (is_unit_polynomial 1 f) (λ e. test_polynomial (omega arith) e) (λ _. all_nilpotent)
  where
    all_nilpotent : is_unit_polynomial 1 f ≡ true
    all_nilpotent =
        ap (λ (t : Bool). cond t (eqb (lead_place 1 f) 0) false) (unit_one (coef f (lead_place 1 f)))
        ∙ ap (λ (c : ℕ). eqb (pred c) 0) (sym (count_is (is_nilpotent 1) f 0 (omega arith)
        (λ j _ _. eq-eqb _ _ (mod-one (coef f j ^ K 1))) (λ l. absurd (omega arith))))
polynomial_fails (suc (suc n)) f =
    fails (is_unit_polynomial (suc (suc n)) f) (λ e. test_polynomial (omega arith) e)
    (λ u. polynomial_test (suc (suc n)) f (omega arith) u)
