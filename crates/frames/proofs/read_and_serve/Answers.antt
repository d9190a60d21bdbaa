use Rattle.frames.proofs.Answering.{telling}
use Rattle.frames.proofs.read_and_serve.Goals as goal

pub returns-then-not-read_words : goal.returns-then-not-read_words
returns-then-not-read_words c = search telling

pub returns : goal.returns
returns c = rw c.number.ensures (search telling)
