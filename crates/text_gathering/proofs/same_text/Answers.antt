use Rattle.std.proofs.Common.{◌∙◌}
use Rattle.text_gathering.proofs.Comparing.{compared}
use Rattle.text_gathering.proofs.same_text.Goals as goal

pub returns : goal.returns
returns c = c.eq.ensures ∙ compared _ _
