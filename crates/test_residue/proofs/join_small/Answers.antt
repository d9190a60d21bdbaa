use Rattle.std.proofs.Common.{rules}
use Rattle.test_residue.proofs.SmallModuli.{joining}
use Rattle.test_residue.proofs.join_small.Goals as goal

pub put_all_joined-requires : goal.put_all_joined-requires
put_all_joined-requires g c = search (rules, joining)
