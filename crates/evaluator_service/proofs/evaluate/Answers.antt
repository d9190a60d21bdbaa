use Rattle.std.proofs.Common.{sym, ap, ◌∙◌}
use Rattle.refusals.specs.Refusal.{status_of}
use Rattle.refusals.specs.Refusals.{narrow}
use Rattle.evaluator_service.proofs.Statuses.{sizes_told, cells_told, evaluator_done}
use Rattle.evaluator_service.proofs.evaluate.Goals as goal

pub determinant-requires-clause-le_n : goal.determinant-requires-clause-le_n
determinant-requires-clause-le_n c =
    sizes_told narrow c.args.n c.args.f.now c.args.g.now (sym (ap status_of c.in_default.is) ∙ c.refusal.ensures)

pub determinant-requires-clause-residue_cells : goal.determinant-requires-clause-residue_cells
determinant-requires-clause-residue_cells c =
    cells_told narrow c.args.n c.args.f.now c.args.g.now (sym (ap status_of c.in_default.is) ∙ c.refusal.ensures) c.sylvester_matrix-m.result
    c.sylvester_matrix-m.ensures

pub returns : goal.returns
returns c =
    evaluator_done narrow c.args.n c.args.f.now c.args.g.now (sym (ap status_of c.in_default.is) ∙ c.refusal.ensures) c.determinant.result
    c.sylvester_matrix-m.result c.determinant.ensures c.sylvester_matrix-m.ensures
