use Rattle.reduced_cofactors.proofs.Solving.{found_asked, found_certified}
use Rattle.reduced_cofactors.proofs.solve.Goals as goal

pub finish-requires-clause-finish_asked : goal.finish-requires-clause-finish_asked
finish-requires-clause-finish_asked c = let q = c.requires in found_asked q.known.1 q.le_t.0 q.le_t.1.0 q.le_t.1.1 c.in_ok-c.ensures.found

pub returns-clause-core_answer : goal.returns-clause-core_answer
returns-clause-core_answer c =
    let q = c.requires in found_certified q.known.1 q.le_t.0 q.le_t.1.0 q.le_t.1.1 c.in_ok-c.ensures.found c.finish.ensures.finished
