use Rattle.hexadecimal.proofs.Eights.{eights}
use Rattle.hexadecimal.proofs.word.Goals as goal

pub returns-then-x-tens : goal.returns-then-x-tens
returns-then-x-tens c = search eights

pub returns : goal.returns
returns c = search eights
