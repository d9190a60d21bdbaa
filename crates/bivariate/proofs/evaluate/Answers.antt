use Rattle.bivariate.proofs.Evaluating.{evaluations}
use Rattle.bivariate.proofs.evaluate.Goals as goal

pub loop-i-preserved : goal.loop-i-preserved
loop-i-preserved c = search evaluations

pub returns : goal.returns
returns c = search evaluations
