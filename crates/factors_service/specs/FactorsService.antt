-- What the four calls on a state answer, whatever words the state holds. s is the state sent, r the one handed back, W the width.
--
--   served_length_of, state_h  how many words of h a state holds, and which; none where their number is above 49
--   started, arrived, left_by      the states that answered calls hand back, s or zeros after a refusal
--   start_refusals, arrive_refusals, leave_refusals, reading_refusals     the refusals of each call in their order
--   StartAnswer, ArriveAnswer, LeaveAnswer, ReadingAnswer      all that is promised of a call
--   ArriveAsked            what an arrival asks that nothing refuses
use Rattle.std.specs.Prelude.{◌≡◌, cond, List, [], ◌∷◌, ◌++◌, ℕ, zero, suc, ◌-◌, ltb, length, take, set, replicate}
use Rattle.definitions.specs.Polynomials.{deg}
use Rattle.definitions.specs.Resultants.{resultant}
use Rattle.refusals.specs.Refusals.{Width, narrow, Tested, bad_modulus_of, first_refusal, refusals_one, answered, left}
use Rattle.factor_places.specs.Places.{first_place_of, multiplied, arrival_tests, leaving_tests}
use Rattle.factors_service.specs.declared.Factors.{Factors}

-- a state of any words: a count above 49 is no length of h, and no word is read
abbrev pub served_length_of : ℕ → ℕ
served_length_of l = cond (ltb 49 l) 0 l

abbrev pub state_h : Factors → List ℕ
state_h s = take (served_length_of s.len) s.h

-- ---- refusals

-- "The start, with n and h, refuses by 1, 2 and 3"
abbrev pub start_refusals : Width → ℕ → List ℕ → List Tested
start_refusals W n h = refusals_one W n h

abbrev pub arrive_refusals : Width → Factors → ℕ → List ℕ → ℕ → List Tested
arrive_refusals W s k f l = arrival_tests W s.n s.number s.degree k f (state_h s) l

abbrev pub leave_refusals : Width → Factors → ℕ → List Tested
leave_refusals W s k = leaving_tests W s.n s.number k

abbrev pub reading_refusals : Width → Factors → List Tested
reading_refusals W s = (1, bad_modulus_of W s.n) ∷ []

-- ---- states

-- sixteen free places; zeros after a refusal
abbrev pub started : ℕ → ℕ → List ℕ → Factors
started zero n h = record {
  n = n;
  len = length h;
  h = h ++ replicate (49 - length h) 0;
  number = replicate 16 0;
  degree = replicate 16 0;
  resultant = replicate 16 1;
}
started (suc t) n h = record {
  n = 0;
  len = 0;
  h = replicate 49 0;
  number = replicate 16 0;
  degree = replicate 16 0;
  resultant = replicate 16 0;
}

-- place i has the number k, the degree d and the resultant x
abbrev pub replaced_at_of : Factors → ℕ → ℕ → ℕ → ℕ → Factors
replaced_at_of s i k d x = record {
  n = s.n;
  len = s.len;
  h = s.h;
  number = set s.number i k;
  degree = set s.degree i d;
  resultant = set s.resultant i x;
}

-- "A refusal leaves the held factors unchanged."
abbrev pub arrived : ℕ → Factors → ℕ → List ℕ → Factors
arrived zero s k f = replaced_at_of s (first_place_of 0 s.number) k (deg f) (resultant s.n f (state_h s))
arrived (suc t) s k f = s

abbrev pub left_by : ℕ → Factors → ℕ → Factors
left_by zero s k = replaced_at_of s (first_place_of k s.number) 0 0 1
left_by (suc t) s k = s

-- ---- answers

pub record StartAnswer (W : Width) (n : ℕ) (h : List ℕ) (r : Factors) (status : ℕ) : Type 0 where
  pub status_is : status ≡ first_refusal (start_refusals W n h)
  pub factors_is : r ≡ started status n h

-- h is that of the state, and nothing refuses the factor f
pub record ArriveAsked (s : Factors) (k : ℕ) (f h work : List ℕ) : Type 0 where
  pub same : h ≡ state_h s
  pub none : first_refusal (arrival_tests narrow s.n s.number s.degree k f h (length work)) ≡ 0

pub record ArriveAnswer (W : Width) (s : Factors) (k : ℕ) (f work work' : List ℕ) (r : Factors) (status : ℕ) : Type 0 where
  pub status_is : status ≡ first_refusal (arrive_refusals W s k f (length work))
  pub factors_is : r ≡ arrived status s k f
  pub work_is : work' ≡ left status work

pub record LeaveAnswer (W : Width) (s : Factors) (k : ℕ) (r : Factors) (status : ℕ) : Type 0 where
  pub status_is : status ≡ first_refusal (leave_refusals W s k)
  pub factors_is : r ≡ left_by status s k

pub record ReadingAnswer (W : Width) (s : Factors) (value status : ℕ) : Type 0 where
  pub status_is : status ≡ first_refusal (reading_refusals W s)
  pub value_is : value ≡ answered status (multiplied s.n s.resultant)
