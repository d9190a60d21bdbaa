-- S22: "A refusal comes under the listed condition and under no other": what the tests mean, in the words of the definitions, over any
-- width.
--
--   ServedModulus, ServedLength     what passes the refusals 1 and 2
--   Fails b P                       the test b says that P does not hold
--   fails, either_fails             a test that is its condition; two tests with one number
--   modulus_fails, length_fails, words_fail, short_fails     the tests of the refusals 1, 2, 3, and 6 and 7
--   none_fails, equal_fails, below_fails     the tests of a number that is 0, of two that differ, and of one that is another or more
--   residues_of, residues_below     the words of which the test says that they are residues, both ways
--   Listed t c                      t tests the conditions c, one after the other
--   Passed c, FirstFailing t c s    all of c hold; s is the number of the first that does not
--   status_zero, status_is          the status is 0 exactly where all hold, and k exactly where the first that does not has number k
--   Accepted, accepted_one, accepted_pair     what is known once none of the refusals 1, 2 and 3 applies
--   narrow_bound                    at 32 bits a word is never at the bound
use Rattle.std.specs.Prelude.{◌≡◌, refl, Bool, true, false, not, cond, ◌⊎◌, List, [], ◌∷◌, ℕ, zero, suc, ◌^◌, ◌≤◌, ◌<◌, T, ltb, eqb, length}
use Rattle.std.proofs.Common.{sym, ap, subst, ◌∙◌, inl, inr, arith, ltb-true, ltb-false, lt-ltb, eqb-true, eq-eqb}
use Rattle.std.proofs.lemmas.Bool.{not-true, not-false}
use Rattle.definitions.specs.Polynomials.{coef, Residues}
use Rattle.refusals.specs.Refusals.{Width, narrow, bad_modulus_of, bad_length_of, all_below_of, short}
use Rattle.refusals.specs.Refusals.{Tested, first_of, first_refusal, refusals_one, refusals_of_pair}

-- S3: "Modulus n: 2 to" the width's bound
pub record ServedModulus (W : Width) (n : ℕ) : Type 0 where
  pub least : 2 ≤ n
  pub most : n < W.bound

-- S5: "A polynomial of sent degree d is d + 1 words … with d from 0 to 48."
pub record ServedLength (f : List ℕ) : Type 0 where
  pub some : 1 ≤ length f
  pub few : length f ≤ 49

pub record Fails (b : Bool) (P : Type 0) : Type 0 where
  pub passed : b ≡ false → P
  pub failed : b ≡ true → P → ⊥

pub yes_no : {b : Bool} {A : Type 0} → b ≡ true → b ≡ false → A
yes_no {b} p q = absurd (subst T (sym p ∙ q) tt)

-- a condition, and the refusal that comes where its test is false
pub fails : (t : Bool) {P : Type 0} → (t ≡ true → P) → (P → t ≡ true) → Fails (not t) P
fails t to from = record { passed = λ e. to (not-false t e); failed = λ e p. yes_no (from p) (not-true t e) }

-- one refusal for two conditions, whose tests are s and then t
pub either_fails : {s t : Bool} {P Q R : Type 0} → Fails s P → Fails t Q → (P → Q → R) → (R → P) → (R → Q) → Fails (cond s true t) R
either_fails {s} {t} {P} {Q} {R} a b both first second = go s a
  where
    go : (x : Bool) → Fails x P → Fails (cond x true t) R
    go true a = record { passed = λ e. yes_no refl e; failed = λ e r. a.failed refl (first r) }
    go false a = record { passed = λ e. both (a.passed refl) (b.passed e); failed = λ e r. b.failed e (second r) }

pub short_fails : (l m : ℕ) → Fails (short l m) (m ≤ l)
short_fails l m = record { passed = ltb-false l m; failed = λ e h. let z = ltb-true l m e in omega arith }

pub none_fails : (l : ℕ) → Fails (eqb l 0) (1 ≤ l)
none_fails zero = record { passed = λ e. yes_no refl e; failed = λ e h. omega arith }
none_fails (suc l) = record { passed = λ e. omega arith; failed = λ e h. let z = eqb-true (suc l) 0 e in omega arith }

pub equal_fails : (a b : ℕ) → Fails (not (eqb a b)) (a ≡ b)
equal_fails a b = fails (eqb a b) (eqb-true a b) (eq-eqb a b)

pub below_fails : (a n : ℕ) → Fails (not (ltb a n)) (a < n)
below_fails a n = fails (ltb a n) (ltb-true a n) (lt-ltb a n)

pub modulus_fails : (W : Width) (n : ℕ) → Fails (bad_modulus_of W n) (ServedModulus W n)
modulus_fails W n =
    either_fails (short_fails n 2) (below_fails n W.bound) (λ a b. record { least = a; most = b }) (λ m. m.least) (λ m. m.most)

pub length_fails : (f : List ℕ) → Fails (bad_length_of f) (ServedLength f)
length_fails f =
    either_fails (none_fails (length f)) (short_fails 49 (length f)) (λ a b. record { some = a; few = b }) (λ m. m.some) (λ m. m.few)

below_at : (n : ℕ) (f : List ℕ) → all_below_of n f ≡ true → (k : ℕ) → k < length f → coef f k < n
unfolding all_below_of
below_at n [] h k l = absurd (omega arith)
below_at n (x ∷ f) h k l = go (ltb x n) refl h (below_at n f) k l
  where
    go : (t : Bool) → ltb x n ≡ t → cond t (all_below_of n f) false ≡ true → (all_below_of n f ≡ true → (k : ℕ) → k < length f → coef f k < n)
        → (k : ℕ) → k < length (x ∷ f) → coef (x ∷ f) k < n
    go true e r ih zero l = ltb-true x n e
    go true e r ih (suc k) l = ih r k (omega arith)
    go false e r ih k l = yes_no r refl

all_at : (n : ℕ) (f : List ℕ) → ((k : ℕ) → k < length f → coef f k < n) → all_below_of n f ≡ true
unfolding all_below_of
all_at n [] h = refl
all_at n (x ∷ f) h =
    ap (λ (t : Bool). cond t (all_below_of n f) false) (lt-ltb x n (h 0 (omega arith))) ∙ all_at n f (λ k l. h (suc k) (omega arith))

pub residues_of : (n : ℕ) (f : List ℕ) → all_below_of n f ≡ true → Residues n f
residues_of n f h = record { at = below_at n f h }

pub residues_below : (n : ℕ) (f : List ℕ) → Residues n f → all_below_of n f ≡ true
residues_below n f r = all_at n f r.at

pub words_fail : (n : ℕ) (f : List ℕ) → Fails (not (all_below_of n f)) (Residues n f)
words_fail n f = fails (all_below_of n f) (residues_of n f) (residues_below n f)

-- ---- the order

-- each test is that of its condition
abbrev pub Listed : List Tested → List (Type 0) → Type 0
Listed [] [] = Unit
Listed [] (P ∷ c) = ⊥
Listed (t ∷ r) [] = ⊥
Listed (t ∷ r) (P ∷ c) = ((1 ≤ t.0) × Fails t.1 P) × Listed r c

abbrev pub Passed : List (Type 0) → Type 0
Passed [] = Unit
Passed (P ∷ c) = P × Passed c

-- the condition with number s does not hold, and those before it do
abbrev pub FirstFailing : List Tested → List (Type 0) → ℕ → Type 0
FirstFailing [] c s = ⊥
FirstFailing (t ∷ r) [] s = ⊥
FirstFailing (t ∷ r) (P ∷ c) s = ((P → ⊥) × (s ≡ t.0)) ⊎ (P × FirstFailing r c s)

-- S22: "A refusal comes under the listed condition and under no other": 0 exactly where all conditions hold
pub status_zero : (t : List Tested) (c : List (Type 0)) → Listed t c → (first_refusal t ≡ 0 → Passed c) × (Passed c → first_refusal t ≡ 0)
status_zero [] [] h = (λ _. tt, λ _. refl)
status_zero [] (P ∷ c) h = absurd h
status_zero (t ∷ r) [] h = absurd h
status_zero (t ∷ r) (P ∷ c) h = go t.0 t.1 h.0.0 h.0.1 (status_zero r c h.1)
  where
    go : (k : ℕ) (b : Bool) → 1 ≤ k → Fails b P → (first_refusal r ≡ 0 → Passed c) × (Passed c → first_refusal r ≡ 0)
        → (first_of (cond b k 0) (first_refusal r) ≡ 0 → P × Passed c) × (P × Passed c → first_of (cond b k 0) (first_refusal r) ≡ 0)
    go zero b l x ih = absurd (omega arith)
    go (suc k) true l x ih = (λ z. absurd (omega arith), λ p. absurd (x.failed refl p.0))
    go (suc k) false l x ih = (λ z. (x.passed refl, ih.0 z), λ p. ih.1 p.1)

-- and k exactly where condition k does not hold and no earlier one fails
pub status_is : (t : List Tested) (c : List (Type 0)) → Listed t c → (k : ℕ) → 1 ≤ k
    → (first_refusal t ≡ k → FirstFailing t c k) × (FirstFailing t c k → first_refusal t ≡ k)
status_is [] [] h k l = (λ z. absurd (omega arith), λ x. absurd x)
status_is [] (P ∷ c) h k l = absurd h
status_is (t ∷ r) [] h k l = absurd h
status_is (t ∷ r) (P ∷ c) h k l = go t.0 t.1 h.0.0 h.0.1 (status_is r c h.1 k l)
  where
    go : (j : ℕ) (b : Bool) → 1 ≤ j → Fails b P → (first_refusal r ≡ k → FirstFailing r c k) × (FirstFailing r c k → first_refusal r ≡ k)
        → (first_of (cond b j 0) (first_refusal r) ≡ k → ((P → ⊥) × (k ≡ j)) ⊎ (P × FirstFailing r c k))
        × (((P → ⊥) × (k ≡ j)) ⊎ (P × FirstFailing r c k) → first_of (cond b j 0) (first_refusal r) ≡ k)
    go zero b m x ih = absurd (omega arith)
    go (suc j) true m x ih = (λ z. inl (x.failed refl, sym z), elim [ inl p ↦ sym p.1 | inr p ↦ absurd (x.failed refl p.0) ])
    go (suc j) false m x ih = (λ z. inr (x.passed refl, ih.0 z), elim [ inl p ↦ absurd (p.0 (x.passed refl)) | inr p ↦ ih.1 p.1 ])

-- ---- one polynomial and two

-- what is sent: n, f and g are served where all of these hold
abbrev pub conditions_one : Width → ℕ → List ℕ → List (Type 0)
conditions_one W n f = ServedModulus W n ∷ ServedLength f ∷ Residues n f ∷ []

abbrev pub conditions_of_pair : Width → ℕ → List ℕ → List ℕ → List (Type 0)
conditions_of_pair W n f g = ServedModulus W n ∷ ServedLength f ∷ ServedLength g ∷ Residues n f ∷ Residues n g ∷ []

pub listed_one : (W : Width) (n : ℕ) (f : List ℕ) → Listed (refusals_one W n f) (conditions_one W n f)
listed_one W n f = ((omega arith, modulus_fails W n), ((omega arith, length_fails f), ((omega arith, words_fail n f), tt)))

pub listed_pair : (W : Width) (n : ℕ) (f g : List ℕ) → Listed (refusals_of_pair W n f g) (conditions_of_pair W n f g)
listed_pair W n f g = (
  (omega arith, modulus_fails W n),
  ((omega arith, length_fails f), ((omega arith, length_fails g), ((omega arith, words_fail n f), ((omega arith, words_fail n g), tt)))),
)

pub record Accepted (W : Width) (n : ℕ) (f : List ℕ) : Type 0 where
  pub modulus : 2 ≤ n
  pub bounded : n < W.bound
  pub some : 1 ≤ length f
  pub few : length f ≤ 49
  pub residues : Residues n f

pub accepted_one : (W : Width) (n : ℕ) (f : List ℕ) → first_refusal (refusals_one W n f) ≡ 0 → Accepted W n f
accepted_one W n f h =
    let p = (status_zero (refusals_one W n f) (conditions_one W n f) (listed_one W n f)).0 h in
    record { modulus = p.0.least; bounded = p.0.most; some = p.1.0.some; few = p.1.0.few; residues = p.1.1.0 }

pub accepted_pair : (W : Width) (n : ℕ) (f g : List ℕ) → first_refusal (refusals_of_pair W n f g) ≡ 0 → Accepted W n f × Accepted W n g
accepted_pair W n f g h =
    let p = (status_zero (refusals_of_pair W n f g) (conditions_of_pair W n f g) (listed_pair W n f g)).0 h in (
      record {
        modulus = p.0.least;
        bounded = p.0.most;
        some = p.1.0.some;
        few = p.1.0.few;
        residues = p.1.1.1.0;
      },
      record {
        modulus = p.0.least;
        bounded = p.0.most;
        some = p.1.1.0.some;
        few = p.1.1.0.few;
        residues = p.1.1.1.1.0;
      },
    )

-- S29: a word of 32 bits is below the bound: refusal 1 is "n is 0 or 1" there
pub narrow_bound : (n : ℕ) → n < 2 ^ 32 → bad_modulus_of narrow n ≡ ltb n 2
narrow_bound n l = go (ltb n 2)
  where
    go : (t : Bool) → cond t true (not (ltb n 4294967296)) ≡ t
    go true = refl
    go false = ap not (lt-ltb n 4294967296 (omega arith))
