use borrow.Author.Rules.{rules}
use Rattle.window_combining64.proofs.Rules.{combinations, residues}
use Rattle.window_combining64.proofs.combine_held.Goals as goal

pub loop-j-preserved : goal.loop-j-preserved
loop-j-preserved c = search combinations

pub sum_three-requires : goal.sum_three-requires
sum_three-requires c = (search rules, (search rules, search residues))
