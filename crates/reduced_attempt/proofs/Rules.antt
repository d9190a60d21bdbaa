-- The rules of the functions of an attempt, for words of any width; those of a width's enums stand in `Cases`.
use borrow.Author.Rules.{rules}
use Rattle.reduced_attempt.proofs.Scalings.{scalings}
use Rattle.reduced_attempt.proofs.Halves.{halves}
use Rattle.reduced_attempt.proofs.Whole.{wholes}

pub ruleset attempt = (rules, scalings, halves, wholes)
