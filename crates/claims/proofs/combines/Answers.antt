use Rattle.claims.proofs.Testing.{combinations}
use Rattle.claims.proofs.combines.Goals as goal

pub returns : goal.returns
returns c = search combinations
