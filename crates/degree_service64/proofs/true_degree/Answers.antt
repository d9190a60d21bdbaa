use Rattle.std.proofs.Common.{sym, ap, ◌∙◌}
use Rattle.refusals.specs.Refusal.{status_of}
use Rattle.refusals64.specs.Wide.{wide}
use Rattle.degree_service.proofs.Degrees.{place_fits}
use Rattle.degree_service64.proofs.true_degree.Goals as goal

pub overflow_cast-result : goal.overflow_cast-result
overflow_cast-result c = record {
  fits = place_fits wide c.args.n c.args.f.now (sym (ap status_of c.in_default.is) ∙ c.refusal_one.ensures) c.extent_of-k.result
      c.extent_of-k.ensures;
}
