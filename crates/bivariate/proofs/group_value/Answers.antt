use Rattle.bivariate.proofs.Evaluating.{groups}
use Rattle.bivariate.proofs.group_value.Goals as goal

pub loop-j-preserved : goal.loop-j-preserved
loop-j-preserved c = search groups
