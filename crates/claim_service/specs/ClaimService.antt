-- What the checking of a claim answers (02, W12), and what it leaves in every lent word, over any width W. f and g are the polynomials
-- sent, D is the number claimed, u and v are the multipliers. The refusals are those of claim_refusals/ClaimRefusals.
--
--   claim_number, claim_value              the paper's number and value of each case
--   same_case                              two cases that are no refusals and of one value are the same
--   ClaimSaid, ClaimAnswer, ClaimCase      all that is promised of a call
--   said_exactly                           each case exactly where it is true
use Rattle.std.specs.Prelude.{◌≡◌, refl, List, ℕ, zero, suc, ◌≤◌, length}
use Rattle.std.proofs.Common.{sym, ap, subst, arith, ◌∙◌}
use Rattle.refusals.specs.declared.Refusal.{Refusal}
use Rattle.refusals.specs.declared.Refusal.TheVariants.{BadModulus, BadLength, BadWord, LeadNoUnit, NoUnitFactor, ShortResult, ShortWork}
use Rattle.refusals.specs.declared.Refusal.TheVariants.{NoFrame, NoCofactors, EmptyTop, PrimeDivides, TooManyPoints, FactorsFull, BadNumber}
use Rattle.refusals.specs.declared.Refusal.TheVariants.{BadFrames, BadMultiplier, NoText}
use Rattle.refusals.specs.Refusal.{number_of}
use Rattle.refusals.specs.Refusals.{Width, left}
pub use Rattle.claim_refusals.specs.ClaimRefusals.{ServedMultiplier, claim_refusals, claim_status, claim_conditions, claim_listed}
use Rattle.claims.specs.Claims.{Judged}
use Rattle.claims.specs.ClaimLaws.{judged_once}
use Rattle.claims.specs.declared.Failure.{Failure}
use Rattle.claims.specs.declared.Failure.TheVariants.{Divisor, Combination, Reduced}
use Rattle.claims.specs.Failures.{failure_number}
use Rattle.claim_service.specs.declared.Claim.{Claim}
use Rattle.claim_service.specs.declared.Claim.TheVariants.{Accepted, Fails, Refused}

-- the number of each case: 0, or that of the refusal
abbrev pub claim_number : Claim → ℕ
claim_number Accepted = 0
claim_number (Fails e) = 0
claim_number (Refused r) = number_of r

-- the value of each case: 0, or the number of the first that fails; of a refusal, "Each returns its number and value 0"
abbrev pub claim_value : Claim → ℕ
claim_value Accepted = 0
claim_value (Fails e) = failure_number e
claim_value (Refused r) = 0

-- a refusal has a number that is not 0
some_number : (r : Refusal) → 1 ≤ number_of r
some_number BadModulus = omega arith
some_number BadLength = omega arith
some_number BadWord = omega arith
some_number LeadNoUnit = omega arith
some_number NoUnitFactor = omega arith
some_number ShortResult = omega arith
some_number ShortWork = omega arith
some_number NoFrame = omega arith
some_number NoCofactors = omega arith
some_number EmptyTop = omega arith
some_number PrimeDivides = omega arith
some_number TooManyPoints = omega arith
some_number FactorsFull = omega arith
some_number BadNumber = omega arith
some_number BadFrames = omega arith
some_number BadMultiplier = omega arith
some_number NoText = omega arith

same_failure : (d e : Failure) → failure_number d ≡ failure_number e → d ≡ e
same_failure Divisor Divisor h = refl
same_failure Divisor Combination h = absurd (omega arith)
same_failure Divisor Reduced h = absurd (omega arith)
same_failure Combination Divisor h = absurd (omega arith)
same_failure Combination Combination h = refl
same_failure Combination Reduced h = absurd (omega arith)
same_failure Reduced Divisor h = absurd (omega arith)
same_failure Reduced Combination h = absurd (omega arith)
same_failure Reduced Reduced h = refl

some_failure : (e : Failure) → 1 ≤ failure_number e
some_failure Divisor = omega arith
some_failure Combination = omega arith
some_failure Reduced = omega arith

-- the case for each value: so what fails has a number that is not 0
pub same_case : (r c : Claim) → claim_number r ≡ 0 → claim_number c ≡ 0 → claim_value r ≡ claim_value c → r ≡ c
same_case Accepted Accepted y z h = refl
same_case Accepted (Fails e) y z h = absurd (omega (arith, some_failure e))
same_case (Fails d) Accepted y z h = absurd (omega (arith, some_failure d))
same_case (Fails d) (Fails e) y z h = ap Fails (same_failure d e h)
same_case (Refused a) c y z h = absurd (omega (arith, some_number a))
same_case Accepted (Refused b) y z h = absurd (omega (arith, some_number b))
same_case (Fails d) (Refused b) y z h = absurd (omega (arith, some_number b))

-- an answer, or a refusal
abbrev pub ClaimSaid : ℕ → ℕ → ℕ → List ℕ → List ℕ → ℕ → List ℕ → List ℕ → Type 0
ClaimSaid zero value n f g D u v = Judged value n f g D u v
ClaimSaid (suc s) value n f g D u v = value ≡ 0

-- "After an answered call the working buffer it was lent holds zeros", also where the first of the three has failed; and it is left as
-- found after a refusal
pub record ClaimAnswer (W : Width) (n : ℕ) (f g : List ℕ) (D : ℕ) (u v work work' : List ℕ) (value status : ℕ) : Type 0 where
  pub status_is : status ≡ claim_status W n f g u v (length work)
  pub said : ClaimSaid status value n f g D u v
  pub work_is : work' ≡ left status work

-- the same as one of three cases, each of which has its number and its value
pub record ClaimCase (W : Width) (n : ℕ) (f g : List ℕ) (D : ℕ) (u v work work' : List ℕ) (r : Claim) : Type 0 where
  pub answer : ClaimAnswer W n f g D u v work work' (claim_value r) (claim_number r)

-- ---- exactly

-- c is a case that is no refusal: "accepts exactly when" all three hold (the value is 0), and names k exactly where the k-th fails and those
-- before it hold
pub said_exactly : {W : Width} {n D : ℕ} {f g u v work work' : List ℕ} {r : Claim} → ClaimCase W n f g D u v work work' r
    → claim_number r ≡ 0 → (c : Claim) → claim_number c ≡ 0
    → (r ≡ c → Judged (claim_value c) n f g D u v) × (Judged (claim_value c) n f g D u v → r ≡ c)
said_exactly {W} {n} {D} {f} {g} {u} {v} {r = r} a z c zc = (forth, back)
  where
    here : ClaimSaid 0 (claim_value r) n f g D u v
    here = subst (λ (s : ℕ). ClaimSaid s (claim_value r) n f g D u v) z a.answer.said

    forth : r ≡ c → Judged (claim_value c) n f g D u v
    forth e = subst (λ (x : Claim). Judged (claim_value x) n f g D u v) e here

    back : Judged (claim_value c) n f g D u v → r ≡ c
    back j = same_case r c z zc (judged_once (claim_value r) (claim_value c) n f g D u v here j)
