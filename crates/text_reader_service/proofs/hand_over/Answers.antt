use Rattle.text_reader_service.proofs.ReadReturns.{all_lent}
use Rattle.text_reader_service.proofs.hand_over.Goals as goal

pub returns : goal.returns
returns c = search all_lent
