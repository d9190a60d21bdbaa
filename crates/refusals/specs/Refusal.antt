-- The refusals of a call and their numbers (S29), and what a result that may be a refusal says in the two words of an answer (S21).
--
--   number_of r     the number of the refusal r
--   status_of r     0 where r answers, and else the refusal's number
--   value_of r      the number that r answers, and 0 where it is a refusal
use Rattle.std.specs.Prelude.{ℕ, Result, Ok, Err}
use Rattle.refusals.specs.declared.Refusal.{Refusal}
use Rattle.refusals.specs.declared.Refusal.TheVariants.{BadModulus, BadLength, BadWord, LeadNoUnit, NoUnitFactor, ShortResult, ShortWork}
use Rattle.refusals.specs.declared.Refusal.TheVariants.{NoFrame, NoCofactors, EmptyTop, PrimeDivides, TooManyPoints, FactorsFull, BadNumber}
use Rattle.refusals.specs.declared.Refusal.TheVariants.{BadFrames, BadMultiplier, NoText}

-- S29: the number of each
abbrev pub number_of : Refusal → ℕ
number_of BadModulus = 1
number_of BadLength = 2
number_of BadWord = 3
number_of LeadNoUnit = 4
number_of NoUnitFactor = 5
number_of ShortResult = 6
number_of ShortWork = 7
number_of NoFrame = 8
number_of NoCofactors = 9
number_of EmptyTop = 10
number_of PrimeDivides = 11
number_of TooManyPoints = 12
number_of FactorsFull = 13
number_of BadNumber = 14
number_of BadFrames = 15
number_of BadMultiplier = 16
number_of NoText = 17

-- S21: the status is 0 or the number of the refusal
abbrev pub status_of : {A : Type 0} → Result A Refusal → ℕ
status_of (Ok x) = 0
status_of (Err r) = number_of r

-- S23: "Each returns its number and value 0"
abbrev pub value_of : Result ℕ Refusal → ℕ
value_of (Ok x) = x
value_of (Err r) = 0
