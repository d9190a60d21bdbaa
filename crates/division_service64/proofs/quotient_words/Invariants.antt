use Rattle.division_service.proofs.Quotients.{Quotienting}
use Rattle.division_service64.proofs.quotient_words.Given as goal

abbrev pub invariant-loop-s : goal.invariant-loop-s
invariant-loop-s l = Quotienting l.m.n l.s l.f l.g l.initial.q l.q
