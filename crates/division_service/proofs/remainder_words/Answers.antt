use Rattle.std.proofs.Common.{arith}
use Rattle.law_polynomial_tests.specs.Buffers.{filled_end}
use Rattle.division_service.proofs.remainder_words.Goals as goal

pub returns : goal.returns
returns c = filled_end c.loop-k.invariant c.loop-k.auto.k-end (omega (arith, c.loop-k.invariant.same, c.loop-k-test.false))
