-- What the residue services answer (S30 to S33), over any width W. Each refuses with 1, then 3, and the value is 0 then.
--
--   refusals_residue, refusals_residues    the refusals of one residue and of two, in their order
--   ResidueAnswer t x                      all that is promised of a service with the refusals t and the value x
--   SumAnswer, DifferenceAnswer, ResidueProductAnswer, PowerAnswer    the same of each service
--   GcdAnswers                             all that is promised of the gcd with cofactors
--   answer_number, answer_values           the number and the values for each case of the answer on a residue's kind (S79)
--   KindAnswers                            all that is promised of the kind
--   residue_listed, residues_listed        each refusal under its condition and no other
--   values_one                             the values that are true of a residue are one list
use Rattle.std.specs.Prelude.{◌≡◌, Result, Ok, Err, refl, not, List, [], ◌∷◌, ℕ, zero, suc, ◌+◌, ◌-◌, ◌*◌, ◌%◌, ◌^◌, ◌≤◌, ◌<◌, ltb}
use Rattle.std.proofs.Common.{sym, ap, ◌∙◌, arith}
use Rattle.definitions.specs.Residues.{Inverse, IsNilpotent, Splitting, GcdWithCofactors, LeastCofactors}
use Rattle.refusals.specs.Refusals.{Width, Tested, bad_modulus_of, first_refusal, answered}
use Rattle.refusals.specs.Conditions.{Listed, ServedModulus, modulus_fails, below_fails}
use Rattle.residue.specs.declared.Kind.{Kind}
use Rattle.residue.specs.declared.Kind.TheVariants.{Unit as Unit', Nilpotent, Splits}
use Rattle.residue.specs.Kinds.{KindOf, kind_unique}
use Rattle.refusals.specs.declared.Refusal.{Refusal}
use Rattle.refusals.specs.Refusal.{status_of}

-- S29: "3: … a single residue given, is n or more."
abbrev pub refusals_residue : Width → ℕ → ℕ → List Tested
refusals_residue W n a = (1, bad_modulus_of W n) ∷ (3, not (ltb a n)) ∷ []

abbrev pub refusals_residues : Width → ℕ → ℕ → ℕ → List Tested
refusals_residues W n a b = (1, bad_modulus_of W n) ∷ (3, not (ltb a n)) ∷ (3, not (ltb b n)) ∷ []

-- S23: "Each returns its number and value 0"
pub record ResidueAnswer (t : List Tested) (x value status : ℕ) : Type 0 where
  pub status_is : status ≡ first_refusal t
  pub value_is : value ≡ answered status x

-- "residues modulo n"
abbrev pub SumAnswer : Width → (n a b value status : ℕ) → Type 0
SumAnswer W n a b value status = ResidueAnswer (refusals_residues W n a b) ((a + b) % n) value status

abbrev pub DifferenceAnswer : Width → (n a b value status : ℕ) → Type 0
DifferenceAnswer W n a b value status = ResidueAnswer (refusals_residues W n a b) ((a + (n - b)) % n) value status

abbrev pub ResidueProductAnswer : Width → (n a b value status : ℕ) → Type 0
ResidueProductAnswer W n a b value status = ResidueAnswer (refusals_residues W n a b) ((a * b) % n) value status

abbrev pub PowerAnswer : Width → (n a k value status : ℕ) → Type 0
PowerAnswer W n a k value status = ResidueAnswer (refusals_residue W n a) ((a ^ k) % n) value status

-- S14: "g = gcd(a, b, n) from 1 to n, with residues s and t so that s times a plus t times b is g modulo n."; "s is the least number from 0
-- upward for which some t fits, and t is then the least that fits."; 0 for each after a refusal
abbrev pub GcdValues : (status n a b g s t : ℕ) → Type 0
GcdValues zero n a b g s t = GcdWithCofactors n a b g s t × LeastCofactors n a b g s t
GcdValues (suc r) n a b g s t = (g ≡ 0) × ((s ≡ 0) × (t ≡ 0))

pub record GcdAnswers (W : Width) (n a b g s t status : ℕ) : Type 0 where
  pub status_is : status ≡ first_refusal (refusals_residues W n a b)
  pub values_are : GcdValues status n a b g s t

-- the number of each case: 0, or that of the refusal
abbrev pub answer_number : Result (Kind ℕ) Refusal → ℕ
answer_number r = status_of r

-- the values of each case: "unit with its inverse, nilpotent, or splitting with two factors"; after a refusal the value 0
abbrev pub kind_values : Kind ℕ → List ℕ
kind_values (Unit' i) = i ∷ []
kind_values Nilpotent = []
kind_values (Splits n₁ n₂) = n₁ ∷ n₂ ∷ []

abbrev pub answer_values : Result (Kind ℕ) Refusal → List ℕ
answer_values (Ok k) = kind_values k
answer_values (Err r) = 0 ∷ []

-- no value: nilpotent; one: the inverse; two: the factors
abbrev pub TrueValues : ℕ → ℕ → List ℕ → Type 0
TrueValues n a [] = IsNilpotent n a
TrueValues n a (i ∷ []) = Inverse n a i
TrueValues n a (n₁ ∷ n₂ ∷ []) = Splitting n a n₁ n₂
TrueValues n a (x ∷ y ∷ z ∷ v) = ⊥

abbrev pub KindValues : (status n a : ℕ) → List ℕ → Type 0
KindValues zero n a v = TrueValues n a v
KindValues (suc r) n a v = v ≡ 0 ∷ []

pub record KindAnswers (W : Width) (n a : ℕ) (r : Result (Kind ℕ) Refusal) : Type 0 where
  pub status_is : answer_number r ≡ first_refusal (refusals_residue W n a)
  pub values_are : KindValues (answer_number r) n a (answer_values r)

-- the conditions of an answer: so `status_zero` and `status_is` (refusals/Conditions) say when the status is 0, and when it is k
pub residue_listed : (W : Width) (n a : ℕ) → Listed (refusals_residue W n a) (ServedModulus W n ∷ (a < n) ∷ [])
residue_listed W n a = ((omega arith, modulus_fails W n), ((omega arith, below_fails a n), tt))

pub residues_listed : (W : Width) (n a b : ℕ) → Listed (refusals_residues W n a b) (ServedModulus W n ∷ (a < n) ∷ (b < n) ∷ [])
residues_listed W n a b =
    ((omega arith, modulus_fails W n), ((omega arith, below_fails a n), ((omega arith, below_fails b n), tt)))

-- The promise fixes the answer: the values that are true of a residue are one list, so is the case.
values_kind : (n a : ℕ) (v : List ℕ) → TrueValues n a v → (k : Kind ℕ) × (KindOf n a k × (kind_values k ≡ v))
values_kind n a [] h = (Nilpotent, (h, refl))
values_kind n a (i ∷ []) h = (Unit' i, (h, refl))
values_kind n a (n₁ ∷ n₂ ∷ []) h = (Splits n₁ n₂, (h, refl))
values_kind n a (x ∷ y ∷ z ∷ v) h = absurd h

pub values_one : (n a : ℕ) → 2 ≤ n → (v w : List ℕ) → TrueValues n a v → TrueValues n a w → v ≡ w
values_one n a l v w h k =
    let x = values_kind n a v h in
    let y = values_kind n a w k in
    sym x.1.1 ∙ ap kind_values (kind_unique n a l x.0 y.0 x.1.0 y.1.0) ∙ y.1.1
