-- What the true degree and the leading part answer, over any width W. f is the polynomial sent.
--
--   degree_refusals, degree_status               the refusals in their order, and the number of the first that applies: of both services
--   degree_number, degree_some, degree_value     the number and the values of each case of the answer (S79)
--   refusal_at s                                 the refusal of the number s
--   told s t                                     the case for the status s and the true degree t
--   words_told, leading_part                     how many words the leading part has, and the part
--   TrueDegreeAnswer, DegreeWordsAnswer, LeadingAnswer     all that is promised of a call
--   degree_listed                                each refusal under its condition and no other
use Rattle.std.specs.Prelude.{◌≡◌, cond, List, [], ℕ, zero, suc, ◌+◌, eqb, take}
use Rattle.definitions.specs.Polynomials.{TrueDegree, none, place, true_degree}
use Rattle.refusals.specs.declared.Refusal.{Refusal}
use Rattle.refusals.specs.declared.Refusal.TheVariants.{BadModulus, BadLength, BadWord, LeadNoUnit, NoUnitFactor, ShortResult, ShortWork}
use Rattle.refusals.specs.declared.Refusal.TheVariants.{NoFrame, NoCofactors, EmptyTop, PrimeDivides, TooManyPoints, FactorsFull, BadNumber}
use Rattle.refusals.specs.declared.Refusal.TheVariants.{BadFrames, BadMultiplier, NoText}
use Rattle.refusals.specs.Refusal.{number_of}
use Rattle.refusals.specs.Refusals.{Width, Tested, first_refusal, refusals_one}
use Rattle.refusals.specs.Conditions.{Listed, conditions_one, listed_one}
use Rattle.degree_service.specs.declared.Degree.{Degree}
use Rattle.degree_service.specs.declared.Degree.TheVariants.{None, At, Refused}

-- S39, S40: "Both take n and refuse by 1, 2 and 3."
abbrev pub degree_refusals : Width → ℕ → List ℕ → List Tested
degree_refusals W n f = refusals_one W n f

abbrev pub degree_status : Width → ℕ → List ℕ → ℕ
degree_status W n f = first_refusal (degree_refusals W n f)

-- the number of each case: 0, or that of the refusal
abbrev pub degree_number : Degree → ℕ
degree_number None = 0
degree_number (At k) = 0
degree_number (Refused r) = number_of r

-- the values of each case: 1 where there is a degree, else 0, and the degree; of a refusal, "Each returns its number and value 0"
abbrev pub degree_some : Degree → ℕ
degree_some None = 0
degree_some (At k) = 1
degree_some (Refused r) = 0

abbrev pub degree_value : Degree → ℕ
degree_value None = 0
degree_value (At k) = k
degree_value (Refused r) = 0

-- the refusal of the number s
abbrev pub refusal_at : ℕ → Refusal
refusal_at s = cond (eqb s 1) BadModulus (cond (eqb s 2) BadLength (cond (eqb s 3) BadWord (cond (eqb s 4) LeadNoUnit (cond (eqb s 5) NoUnitFactor (cond (eqb s 6) ShortResult (cond (eqb s 7) ShortWork (cond (eqb s 8) NoFrame (cond (eqb s 9) NoCofactors (cond (eqb s 10) EmptyTop (cond (eqb s 11) PrimeDivides (cond (eqb s 12) TooManyPoints (cond (eqb s 13) FactorsFull (cond (eqb s 14) BadNumber (cond (eqb s 15) BadFrames (cond (eqb s 16) BadMultiplier (NoText))))))))))))))))

-- the case for each status and true degree: so a refusal has a number that is not 0, and none and 0 are two answers
abbrev pub told : ℕ → TrueDegree → Degree
told zero none = None
told zero (place k) = At k
told (suc s) t = Refused (refusal_at (suc s))

-- S39: "One service answers the degree."
pub record TrueDegreeAnswer (W : Width) (n : ℕ) (f : List ℕ) (r : Degree) : Type 0 where
  pub status_is : degree_number r ≡ degree_status W n f
  pub case_is : r ≡ told (degree_number r) (true_degree f)

-- the same in words: those of the case
pub record DegreeWordsAnswer (W : Width) (n : ℕ) (f : List ℕ) (some degree status : ℕ) : Type 0 where
  pub status_is : status ≡ degree_status W n f
  pub some_is : some ≡ degree_some (told status (true_degree f))
  pub degree_is : degree ≡ degree_value (told status (true_degree f))

-- the number of words up to the degree
abbrev pub words_told : Degree → ℕ
words_told None = 0
words_told (At k) = k + 1
words_told (Refused r) = 0

-- S40: "the words up to that place"; of a zero polynomial "the part handed back is empty"; "Where the first refuses, the second
-- hands back an empty part"
abbrev pub leading_part : ℕ → TrueDegree → List ℕ → List ℕ
leading_part zero none f = []
leading_part zero (place k) f = take (k + 1) f
leading_part (suc s) t f = []

-- S40: "handed back as a leading part of the caller's own words"; "the first's number stands for both"
pub record LeadingAnswer (W : Width) (n : ℕ) (f part : List ℕ) : Type 0 where
  pub part_is : part ≡ leading_part (degree_status W n f) (true_degree f) f

-- the conditions of an answer: so `status_zero` and `status_is` (refusals/Conditions) say when the status is 0, and when it is k
abbrev pub degree_conditions : Width → ℕ → List ℕ → List (Type 0)
degree_conditions W n f = conditions_one W n f

pub degree_listed : (W : Width) (n : ℕ) (f : List ℕ) → Listed (degree_refusals W n f) (degree_conditions W n f)
degree_listed W n f = listed_one W n f
