use Rattle.claims.proofs.Testing.{tests}
use Rattle.claims.proofs.is_reduced.Goals as goal

pub returns-clause-tells : goal.returns-clause-tells
returns-clause-tells c = search tests
