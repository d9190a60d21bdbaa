use Prim.Native.Nat.{◌+◌, ◌*◌}
use Rattle.divisor_stages64.proofs.+content_stage_division_stage.Given as goal

abbrev pub decreases-content_stage : goal.decreases-content_stage
decreases-content_stage l = 2 * l.d

abbrev pub decreases-division_stage : goal.decreases-division_stage
decreases-division_stage l = 2 * l.p.k + 1
