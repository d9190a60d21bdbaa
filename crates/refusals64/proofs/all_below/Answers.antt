use Rattle.std.proofs.Common.{ltb, ◌∙◌, rules, tests}
use Rattle.std.proofs.lemmas.Iterator.{YieldsList-from_slice}
use Rattle.std.proofs.lemmas.Iterator.Search.{all_from_yields_List}
use Rattle.refusals.proofs.Words.{all_is}
use Rattle.refusals64.proofs.all_below.Goals as goal

pub returns : goal.returns
returns c =
    all_from_yields_List (λ x. ltb x c.args.n) _ _ c.all.result c.all.ensures.ran (YieldsList-from_slice c.args.f.now cc)
    (λ x b q k. search (rules, tests))
    ∙ all_is c.args.n c.args.f.now
