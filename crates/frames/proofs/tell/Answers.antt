use Rattle.frames.proofs.Answering.{told_refused}
use Rattle.frames.proofs.tell.Goals as goal

pub returns-in_default : goal.returns-in_default
returns-in_default c = told_refused c.in_default.ensures
