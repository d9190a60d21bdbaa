use Rattle.std.proofs.Common.{rules}
use Rattle.refusals64.specs.Wide.{wide}
use Rattle.degree_service.proofs.Degrees.{part_inside}
use Rattle.degree_service64.proofs.leading.Goals as goal

pub slice_bounds-result-end : goal.slice_bounds-result-end
slice_bounds-result-end c =
    let h = part_inside wide c.args.n c.args.f.now c.true_degree.result c.true_degree.ensures in search (rules, h)
