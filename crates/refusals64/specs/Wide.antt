-- Words of 64 bits. All else that the refusals and the answers say is over any width (`refusals`).
--
--   wide    the bound of n and the working words asked for
use Rattle.refusals.specs.Refusals.{Width}

-- S71, S72, S73: "n up to 2^63 - 1"; "The working buffer of the second set is at least 16384 of its words." "Refusal 1 also meets n of 2^63
-- or more here."
abbrev pub wide : Width
wide = record { bound = 9223372036854775808; working = 16384 }
