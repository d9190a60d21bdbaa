use Rattle.std.proofs.Common.{rules}
use Rattle.law_polynomial_tests.specs.Buffers.{filled_end}
use Rattle.product_service.proofs.product_words.Goals as goal

pub returns : goal.returns
returns c = search (rules, filled_end)
