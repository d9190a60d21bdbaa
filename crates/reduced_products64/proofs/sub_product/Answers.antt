use Rattle.reduced_products.proofs.Subtraction.{subtractions}
use Rattle.reduced_products64.proofs.sub_product.Goals as goal

pub loop-i-init : goal.loop-i-init
loop-i-init c = search subtractions

pub overflow_sub-n : goal.overflow_sub-n
overflow_sub-n c = search subtractions

pub overflow_sub-n-in-loop-i : goal.overflow_sub-n-in-loop-i
overflow_sub-n-in-loop-i c = search subtractions

pub add_pair-requires-clause-pair_asked : goal.add_pair-requires-clause-pair_asked
add_pair-requires-clause-pair_asked c = search subtractions

pub overflow_sub-n-in-loop-i-2 : goal.overflow_sub-n-in-loop-i-2
overflow_sub-n-in-loop-i-2 c = search subtractions

pub loop-i-preserved : goal.loop-i-preserved
loop-i-preserved c = search subtractions

pub returns-then-lp-eq0 : goal.returns-then-lp-eq0
returns-then-lp-eq0 c = search subtractions

pub overflow_sub-n-2 : goal.overflow_sub-n-2
overflow_sub-n-2 c = search subtractions

pub add_scaled-requires-clause-pair_asked : goal.add_scaled-requires-clause-pair_asked
add_scaled-requires-clause-pair_asked c = search subtractions

pub returns : goal.returns
returns c = search subtractions
