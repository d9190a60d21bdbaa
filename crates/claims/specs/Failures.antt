-- The three tests of a claim that may fail (S47), and their numbers.
--
--   failure_number e     the number of the test e
--   number_failing r     0 where r is no failure, and else the failure's number
use Rattle.std.specs.Prelude.{ℕ, Result, Ok, Err}
use Rattle.claims.specs.declared.Failure.{Failure}
use Rattle.claims.specs.declared.Failure.TheVariants.{Divisor, Combination, Reduced}

-- S47: "D divides n, the combination gives D modulo n, and D is the reduced resultant as defined": in this order
abbrev pub failure_number : Failure → ℕ
failure_number Divisor = 1
failure_number Combination = 2
failure_number Reduced = 3

abbrev pub number_failing : {A : Type 0} → Result A Failure → ℕ
number_failing (Ok x) = 0
number_failing (Err e) = failure_number e
