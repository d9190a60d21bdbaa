use Rattle.bivariate.proofs.Interpolating.{points}
use Rattle.bivariate.proofs.values.Goals as goal

pub overflow_cast-z : goal.overflow_cast-z
overflow_cast-z c = search points
