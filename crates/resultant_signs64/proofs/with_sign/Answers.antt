use Rattle.std.proofs.Common.{sym, ◌∙◌, arith}
use Rattle.resultant_signs.specs.Signs.{signed_even, signed_odd}
use Rattle.resultant_signs64.proofs.with_sign.Goals as goal

pub returns-then-k-eq0 : goal.returns-then-k-eq0
returns-then-k-eq0 c = sym (signed_even c.args.n c.args.k c.args.x c.requires c.if-k-eq0.true)

pub returns : goal.returns
returns c = c.negate.ensures ∙ sym (signed_odd c.args.n c.args.k c.args.x c.requires (omega arith))
