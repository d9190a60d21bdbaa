use Rattle.convolution64.proofs.Reducing.{Reduced}
use Rattle.convolution64.proofs.product_word_by.Given as goal

abbrev pub invariant-loop-i : goal.invariant-loop-i
invariant-loop-i l = Reduced l.m.n l.k l.i l.x l.f l.g
