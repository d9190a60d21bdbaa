use Rattle.convolution.proofs.Terms.{Summed}
use Rattle.convolution.proofs.product_word_by.Given as goal

abbrev pub invariant-loop-i : goal.invariant-loop-i
invariant-loop-i l = Summed l.k l.i l.x l.h l.f l.g
