use Rattle.resultant_steps.proofs.AnswerChanges.{splitting}
use Rattle.resultant_steps.proofs.lift_split.Goals as goal

pub returns-in-Unit : goal.returns-in-Unit
returns-in-Unit c = search splitting

pub returns-in-Nilpotent : goal.returns-in-Nilpotent
returns-in-Nilpotent c = search splitting
