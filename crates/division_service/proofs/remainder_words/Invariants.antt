use Rattle.law_polynomial_tests.specs.Buffers.{Filled}
use Rattle.division_service.proofs.Quotients.{remainders}
use Rattle.division_service.proofs.remainder_words.Given as goal

abbrev pub invariant-loop-k : goal.invariant-loop-k
invariant-loop-k l = Filled (remainders l.m.n l.f l.g l.q) l.k l.initial.r l.r
