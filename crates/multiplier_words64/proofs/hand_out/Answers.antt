use Rattle.multiplier_words.proofs.Putting.{puts}
use Rattle.multiplier_words64.proofs.hand_out.Goals as goal

pub returns : goal.returns
returns c = search puts
