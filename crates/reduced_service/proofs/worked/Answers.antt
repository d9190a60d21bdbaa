use native.Mathlib.Omega.{arith}
use Rattle.reduced_service.proofs.OneWord.{constants_certified}
use Rattle.reduced_service.proofs.worked.Goals as goal

pub returns-then-g_is_constant-clause-certified : goal.returns-then-g_is_constant-clause-certified
returns-then-g_is_constant-clause-certified c =
    constants_certified c.requires (omega arith) (omega arith) c.constants.ensures _ _
