-- Each refusal of a job under its condition and no other.
use Rattle.std.specs.Prelude.{List, ℕ}
use Rattle.std.proofs.Common.{arith}
use Rattle.refusals.specs.Conditions.{Listed, modulus_fails, length_fails, words_fail}
use Rattle.frame_refusals.specs.FrameRefusals.{job_refusals}
use Rattle.frame_refusals.specs.JobLaws.{job_conditions, top_fails}

pub job_listed : (n : ℕ) (f g : List ℕ) → Listed (job_refusals n f g) (job_conditions n f g)
job_listed n f g = search (arith, tt, modulus_fails, length_fails, words_fail, top_fails) depth 20
