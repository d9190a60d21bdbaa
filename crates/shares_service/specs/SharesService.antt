-- What the planner answers (S59): n is the number of frames of the run, and w what waits of each group.
--
--   bad_frames, ServedFrames     the test of refusal 15, and what passes it
--   share_refusals               the refusals
--   shared s n w                 the four counts at status s
--   SharesAnswer                 all that is promised of a call
--   shares_listed                the refusal comes under its condition and no other
use Rattle.std.specs.Prelude.{◌≡◌, Bool, true, cond, List, [], ◌∷◌, ℕ, zero, suc, ◌≤◌, ltb}
use Rattle.std.proofs.Common.{arith}
use Rattle.refusals.specs.Refusals.{Tested, first_refusal}
use Rattle.refusals.specs.Conditions.{Listed, Fails, either_fails, short_fails}
use Rattle.shares_service.specs.GivingOut.{given_out}

-- S59: "It refuses with 15 an N outside the range", "N from 1 to 1024"
abbrev pub bad_frames : ℕ → Bool
bad_frames n = cond (ltb n 1) true (ltb 1024 n)

abbrev pub share_refusals : ℕ → List Tested
share_refusals n = (15, bad_frames n) ∷ []

-- S59: "and all four counts are then 0"
abbrev pub shared : ℕ → ℕ → List ℕ → List ℕ
shared zero n w = given_out n w
shared (suc s) n w = 0 ∷ 0 ∷ 0 ∷ 0 ∷ []

pub record SharesAnswer (n : ℕ) (w share : List ℕ) (status : ℕ) : Type 0 where
  pub status_is : status ≡ first_refusal (share_refusals n)
  pub share_is : share ≡ shared status n w

pub record ServedFrames (n : ℕ) : Type 0 where
  pub least : 1 ≤ n
  pub most : n ≤ 1024

frames_fail : (n : ℕ) → Fails (bad_frames n) (ServedFrames n)
frames_fail n =
    either_fails (short_fails n 1) (short_fails 1024 n) (λ a b. record { least = a; most = b }) (λ m. m.least) (λ m. m.most)

pub shares_listed : (n : ℕ) → Listed (share_refusals n) (ServedFrames n ∷ [])
shares_listed n = search (arith, tt, frames_fail) depth 20
