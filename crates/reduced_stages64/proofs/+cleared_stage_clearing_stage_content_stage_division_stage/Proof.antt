-- The stages meet their contracts, one proof for all. The measure is four times the sum of a degree and the modulus, and a little more: the
-- degree of A for the content stage, that of B for the division stage.
use borrow.Author.Rules.{rules}
use Prim.Native.Nat.{◌+◌, ◌*◌, ◌/◌}
use Rattle.reduced_stages.proofs.Cases.{next_fits, nexts, stages}
use Rattle.reduced_stages.proofs.Endings.{overs, scales}
use Rattle.bezout64.proofs as bezout
use Rattle.modulus_windows64.proofs as windows
use Rattle.window_division64.proofs as division
use Rattle.reduced_products64.proofs as products
use Rattle.reduced_clearing64.proofs as clearing
use Rattle.reduced_stages64.proofs as own
use Rattle.reduced_stages64.proofs.+cleared_stage_clearing_stage_content_stage_division_stage as cycle

pub +cleared_stage_clearing_stage_content_stage_division_stage_spec : {M : Type 1} → cycle.statement M
+cleared_stage_clearing_stage_content_stage_division_stage_spec =
    cycle.Tie.close
    (λ κs a. 4 * (a.1.1.1.1.0.b + a.1.1.0.n / a.1.1.1.1.0.c) + 3) (λ κs a. 4 * (a.1.1.1.1.0 + a.1.1.0.n))
    (λ κs a. 4 * (a.1.1.1.1.0 + a.1.1.0.n) + 1) (λ κs a. 4 * (a.1.1.1.1.1.0.s + a.1.1.0.n) + 2)
    (λ t. cycle.Lts-cleared_stage.spec (_, clearing.modulus_over.Reads.Learnt, _, own.division_stage.Reads.Post)
    _ own.cleared_stage.Reads.Post (λ c κs. search overs) (λ c κs. (search overs, search overs)) (λ c. search rules)
    (λ c. (search overs, search overs)))
    (λ t. cycle.Lts-clearing_stage.spec (
      _,
      clearing.clear_contents.Reads.Learnt,
      _,
      own.cleared_stage.Reads.Post,
      _,
      own.with_content.Reads.Learnt,
    )
    _ own.clearing_stage.Reads.Post (λ c κs. search rules) (λ c. search rules) (λ c. search rules) (λ c. search rules)
    (λ c κs. (search nexts, search nexts))
    -- applied by hand: held against all places, the answer takes a search too many steps
    (λ c κs. next_fits _ _ _ _ _ _ _ c.clear_contents.ensures.0 c.in-Next.is _ _ c.cleared_stage-r.ensures.0)
    (λ c. search rules) (λ c. (search stages, search stages))
    (λ c. search rules) (λ c. search stages) (λ c. search rules) (λ c. search stages))
    (λ t. cycle.Lts-content_stage.spec (
      _,
      bezout.cofactor.Reads.Learnt,
      _,
      windows.set_scaled.Reads.Learnt,
      _,
      own.division_stage.Reads.Post,
      _,
      own.clearing_stage.Reads.Post,
    )
    _ own.content_stage.Reads.Post (λ c. search rules) (λ c. search rules) (λ c. search rules) (λ c. search rules)
    (λ c κs. search rules) (λ c. search rules) (λ c κs. (search scales, (search scales, search scales))) (λ c. search rules)
    (λ c. search stages) (λ c. search rules) (λ c κs. search stages) (λ c. search rules) (λ c. search stages) (λ c κs. search stages)
    (λ c. search rules) (λ c. search stages))
    (λ t. cycle.Lts-division_stage.spec (
      _,
      division.divide_keeping.Reads.Learnt,
      _,
      products.take_product.Reads.Learnt,
      _,
      own.content_stage.Reads.Post,
    )
    _ own.division_stage.Reads.Post (λ c κs. search stages) (λ c. search rules) (λ c. search rules) (λ c. search rules)
    (λ c κs. search stages) (λ c κs. search stages) (λ c. search rules) (λ c. search stages))
