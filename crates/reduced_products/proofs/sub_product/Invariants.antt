use Rattle.reduced_products.proofs.Subtraction.{Taking}
use Rattle.reduced_products.proofs.sub_product.Given as goal

abbrev pub invariant-loop-i : goal.invariant-loop-i
invariant-loop-i l = Taking l.n l.p l.lp l.q l.lq l.dst l.initial.w l.w l.i
