use borrow.Author.Rules.{rules}
use Prim.Native.Nat.{◌+◌, ◌*◌}
use Rattle.resultant_attempt.proofs.Cases.{attempts, products}
use Rattle.bezout64.proofs as bezout
use Rattle.reduction64.proofs as reduction
use Rattle.window_division64.proofs as division
use Rattle.window_factor64.proofs as factor
use Rattle.resultant_steps64.proofs as steps
use Rattle.resultant_attempt64.proofs as own
use Rattle.resultant_attempt64.proofs.+by_content_dropped_euclid_factors_from_below_monic_part_primitive_reversed_step_unit_part
    as cycle

pub +by_content_dropped_euclid_factors_from_below_monic_part_primitive_reversed_step_unit_part_spec : {M : Type 1} → cycle.statement M
+by_content_dropped_euclid_factors_from_below_monic_part_primitive_reversed_step_unit_part_spec =
    cycle.Tie.close
    (λ κs a. 8 * a.1.1.0 + 5) (λ κs a. 8 * a.1.1.1.0 + 0) (λ κs a. 8 * a.1.1.1.0 + 7) (λ κs a. 8 * a.1.1.0 + 3)
    (λ κs a. 8 * a.1.1.1.0 + 6) (λ κs a. 8 * a.1.1.1.0 + 1) (λ κs a. 8 * a.1.1.0 + 4) (λ κs a. 8 * a.1.1.0.d + 1)
    (λ κs a. 8 * a.1.1.0.d + 0) (λ κs a. 8 * a.1.1.1.0 + 2)
    (λ t. cycle.Lts-by_content.spec (
      _,
      steps.clear_content.Reads.Learnt,
      _,
      own.primitive.Reads.Post,
      _,
      steps.lifted.Reads.Learnt,
      _,
      reduction.power.Reads.Learnt,
      _,
      steps.times.Reads.Learnt,
    )
    _ own.by_content.Reads.Post (λ c κs. (search rules, search attempts)) (λ c. search rules) (λ c. search attempts)
    (λ c κs. (search attempts, (search rules, (search attempts, search attempts))))
    (λ c κs. (search attempts, search attempts)) (λ c κs. search rules)
    (λ c κs. search rules) (λ c. search rules) (λ c. search attempts))
    (λ t. cycle.Lts-dropped.spec (_, own.euclid.Reads.Post, _, steps.times.Reads.Learnt, _, steps.times_sign.Reads.Learnt)
    _ own.dropped.Reads.Post (λ c. search rules) (λ c. search rules) (λ c. search rules) (λ c. search rules) (λ c κs. search attempts)
    (λ c κs. search rules) (λ c κs. search attempts) (λ c. search rules) (λ c. search attempts))
    (λ t. cycle.Lts-euclid.spec (
      _,
      reduction.power.Reads.Learnt,
      _,
      own.dropped.Reads.Post,
      _,
      bezout.cofactor.Reads.Learnt,
      _,
      own.step.Reads.Post,
      _,
      own.from_below.Reads.Post,
    )
    _ own.euclid.Reads.Post (λ c. search rules) (λ c. search rules) (λ c. search rules) (λ c κs. search rules)
    (λ c. (search attempts, search attempts)) (λ c κs. search attempts) (λ c. search rules) (λ c. search attempts) (λ c κs. search rules)
    (λ c κs. search attempts) (λ c. search rules) (λ c. search attempts) (λ c κs. search attempts) (λ c. search rules)
    (λ c. search attempts))
    (λ t. cycle.Lts-factors.spec (
      _,
      factor.unit_times_monic.Reads.Learnt,
      _,
      own.monic_part.Reads.Post,
      _,
      own.unit_part.Reads.Post,
      _,
      steps.times.Reads.Learnt,
    )
    _ own.factors.Reads.Post (λ c. search rules) (λ c. search rules) (λ c. search rules) (λ c. search rules) (λ c. search rules)
    (λ c. search rules) (λ c. search rules) (λ c. search rules) (λ c. search rules) (λ c. search rules) (λ c. search rules)
    (λ c κs. (search attempts, search attempts)) (λ c κs. (search attempts, search attempts)) (λ c. search rules) (λ c. search rules)
    (λ c κs. (search attempts, (search rules, (search attempts, (search attempts, search attempts))))) (λ c κs. search rules)
    (λ c. search rules)
    (λ c. search rules)
    (λ c. search products)
    (λ c. search rules) (λ c. search attempts))
    (λ t. cycle.Lts-from_below.spec (
      _,
      bezout.cofactor.Reads.Learnt,
      _,
      own.reversed.Reads.Post,
      _,
      steps.copy_pair.Reads.Learnt,
      _,
      own.by_content.Reads.Post,
    )
    _ own.from_below.Reads.Post (λ c. search rules) (λ c. search rules) (λ c κs. search rules) (λ c κs. search attempts)
    (λ c. search rules) (λ c. search attempts) (λ c. search rules) (λ c. search rules) (λ c κs. search attempts) (λ c. search rules)
    (λ c. search rules) (λ c. search rules) (λ c. search rules) (λ c κs. search attempts) (λ c. search rules) (λ c. search attempts))
    (λ t. cycle.Lts-monic_part.spec (_, steps.copy_pair.Reads.Learnt, _, own.step.Reads.Post)
    _ own.monic_part.Reads.Post (λ c. (search attempts, search attempts)) (λ c. search rules) (λ c. search rules)
    (λ c κs. search attempts) (λ c. search rules) (λ c. search rules) (λ c. search rules) (λ c. search rules) (λ c. search rules)
    (λ c κs. search attempts) (λ c. search rules) (λ c. search attempts))
    (λ t. cycle.Lts-primitive.spec (_, factor.highest_of.Reads.Learnt, _, own.step.Reads.Post, _, own.factors.Reads.Post)
    _ own.primitive.Reads.Post (λ c. search rules) (λ c. search rules) (λ c. search rules) (λ c. search rules) (λ c. search rules)
    (λ c. search rules) (λ c. search rules) (λ c κs. search rules) (λ c. search rules) (λ c κs. (search attempts, search attempts))
    (λ c. search rules) (λ c. search attempts) (λ c κs.
    (search attempts, (search rules, ((search attempts, search attempts), search attempts))))
    (λ c. search rules) (λ c. search rules) (λ c. search rules) (λ c. search attempts) (λ c. search rules) (λ c. search attempts)
    (λ c. search rules) (λ c. search attempts))
    (λ t. cycle.Lts-reversed.spec (_, steps.copy_pair_reversed.Reads.Learnt, _, own.step.Reads.Post, _, steps.times_sign.Reads.Learnt)
    _ own.reversed.Reads.Post (λ c. search rules) (λ c. search rules) (λ c κs. search attempts) (λ c. search rules) (λ c. search rules)
    (λ c. search rules) (λ c. search rules) (λ c. search rules) (λ c κs. search attempts) (λ c κs. search attempts) (λ c. search rules)
    (λ c. search attempts))
    (λ t. cycle.Lts-step.spec (
      _,
      division.divide.Reads.Learnt,
      _,
      own.euclid.Reads.Post,
      _,
      reduction.power.Reads.Learnt,
      _,
      steps.times.Reads.Learnt,
    )
    _ own.step.Reads.Post (λ c. search rules) (λ c. search rules) (λ c. search rules) (λ c κs. search attempts) (λ c. search rules)
    (λ c κs. search attempts) (λ c. search rules) (λ c. search rules) (λ c κs. search rules) (λ c κs. search rules) (λ c. search rules)
    (λ c. search attempts))
    (λ t. cycle.Lts-unit_part.spec (_, bezout.cofactor.Reads.Learnt, _, own.reversed.Reads.Post)
    _ own.unit_part.Reads.Post (λ c. search rules) (λ c. search rules) (λ c κs. search rules) (λ c κs. search attempts)
    (λ c. search rules) (λ c. search attempts))
