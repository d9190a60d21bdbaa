use Rattle.claims.proofs.Testing.{tests}
use Rattle.claims.proofs.combined_word.Goals as goal

pub returns : goal.returns
returns c = search tests
