use Rattle.text_writer_service.proofs.Terms.{writing}
use Rattle.text_writer_service.proofs.put_text.Goals as goal

pub loop-k-init : goal.loop-k-init
loop-k-init c = search writing

pub loop-k-preserved : goal.loop-k-preserved
loop-k-preserved c = search writing
