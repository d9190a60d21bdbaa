use Rattle.law_polynomial_tests.specs.Buffers.{Filled}
use Rattle.product_service.proofs.ProductReturns.{products}
use Rattle.product_service.proofs.product_words.Given as goal

abbrev pub invariant-loop-k : goal.invariant-loop-k
invariant-loop-k l = Filled (products l.n l.f l.g) l.k l.initial.out l.out
