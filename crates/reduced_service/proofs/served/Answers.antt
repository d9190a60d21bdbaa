use Rattle.std.proofs.Common.{refl, arith}
use Rattle.law_numbers.specs.Logarithm.{K_below}
use Rattle.refusals.specs.Refusals.{narrow}
use Rattle.reduced_service.proofs.ReducedReturns.{Serves, run_asked, done}
use Rattle.reduced_service.proofs.served.Goals as goal

-- a modulus of 32 bits has K at most 31
serves : Serves narrow 31
serves = record { most = λ n l h. let a = K_below n 32 (omega arith) h in omega arith; room = omega arith }

pub worked-found-requires : goal.worked-found-requires
worked-found-requires c = run_asked c.requires 31 serves refl refl refl refl refl refl

pub returns : goal.returns
returns c =
    done c.requires _ _ _ _ _ c.worked-found.ensures.certified c.worked-found.ensures.least_constants c.worked-found.ensures.scratch
    c.worked-found.auto.u c.worked-found.auto.v c.answered.ensures.work_after c.answered.ensures.value_value refl refl
