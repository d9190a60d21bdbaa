use Rattle.degree_service.proofs.Degrees.{descending_found, descending_end}
use Rattle.degree_service.proofs.extent_of.Goals as goal

pub returns-then-f-j-ne0 : goal.returns-then-f-j-ne0
returns-then-f-j-ne0 c = descending_found c.loop-j.invariant c.loop-j-test.true c.if-f-j-ne0.true

pub returns : goal.returns
returns c = descending_end c.loop-j.invariant c.loop-j-test.false
