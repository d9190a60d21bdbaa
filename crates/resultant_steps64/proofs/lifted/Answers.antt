use Rattle.resultant_steps.proofs.AnswerChanges.{rotated}
use Rattle.resultant_steps64.proofs.lifted.Goals as goal

pub lift_split-requires : goal.lift_split-requires
lift_split-requires c = search rotated

pub returns-in-Ok : goal.returns-in-Ok
returns-in-Ok c = search rotated
