use borrow.Author.Rules.{rules}
use Rattle.window_combining.proofs.Steps.{combinations}
use Rattle.modulus_windows.proofs.Holding.{residues}
use Rattle.modulus_windows.proofs.combine_pair_held.Goals as goal

pub sum_three-requires-clause-l_le_n : goal.sum_three-requires-clause-l_le_n
sum_three-requires-clause-l_le_n c = (search rules, (search residues, (search rules, (search residues, (search rules, search residues)))))

pub loop-j-preserved : goal.loop-j-preserved
loop-j-preserved c = search combinations
