-- What follows from the giving out, for every number of frames and whatever waits.
--
--   FairShares n w g     g are fair shares of n frames, where w waits
--   shares_law           what is given out is so
--   answer_law           and so is every answer
use Rattle.std.specs.Prelude.{◌≡◌, List, [], ◌∷◌, ℕ, ◌+◌, ◌/◌, min, ◌≤◌, ◌<◌, length, get_or}
use Rattle.std.proofs.Common.{◌∙◌, arith}
use Rattle.std.proofs.Math.Decide.{ℕ_discrete}
use Rattle.definitions.specs.Polynomials.{total}
use Rattle.refusals.specs.Conditions.{status_zero}
use Rattle.shares_service.specs.GivingOut.{Giving, given_out}
use Rattle.shares_service.specs.SharesService.{share_refusals, ServedFrames, SharesAnswer, shares_listed}
use Rattle.shares_service.specs.GivingLaws.{After, after, total_less}

-- S60: "Each group gets at least its waiting count or a fourth of N rounded down, if that is less, however much others send." None gets
-- more than waits. All that waits goes in, or n frames. Of two groups that wait for more than they get, one gets at most one more.
pub record FairShares (n : ℕ) (w g : List ℕ) : Type 0 where
  pub least : (i : ℕ) → i < 4 → min (get_or w i 0) (n / 4) ≤ get_or g i 0
  pub most : (i : ℕ) → get_or g i 0 ≤ get_or w i 0
  pub all : total 4 (λ i. get_or g i 0) ≡ min n (total 4 (λ i. get_or w i 0))
  pub even : (i j : ℕ) → i < 4 → j < 4 → get_or g i 0 < get_or w i 0 → get_or g j 0 < get_or w j 0 → get_or g i 0 ≤ get_or g j 0 + 1

-- no turn gives two frames
turns_least : (n : ℕ) (W : List ℕ) (s : Giving) (a : After n W s) → total 4 (λ i. get_or s.given i 0) ≤ a.turns
turns_least n W s a =
    let u = a.fair.upper in
    omega (arith, u 0 (omega arith), u 1 (omega arith), u 2 (omega arith), u 3 (omega arith))

after_shared : (n : ℕ) (W : List ℕ) (s : Giving) → After n W s → FairShares n W s.given
after_shared n W s a = record {
  least = λ i l. least i l (ℕ_discrete (get_or s.waiting i 0) 0);
  most = λ i. omega (arith, a.kept i);
  all = a.all;
  even = λ i j l m h k. omega (arith, a.fair.upper i l, a.fair.lower j m (omega (arith, a.kept j)));
}
  where
    least : (i : ℕ) → i < 4 → Dec (get_or s.waiting i 0 ≡ 0) → min (get_or W i 0) (n / 4) ≤ get_or s.given i 0
    least i l (yes z) = omega (arith, a.kept i)
    least i l (no z) =
        let h : 0 < get_or s.waiting i 0 = omega arith in
        omega (arith, turns_least n W s a, a.all, total_less s.waiting s.given W a.kept i l h, a.fair.lower i l h)

pub shares_law : (n : ℕ) (w : List ℕ) → length w ≡ 4 → FairShares n w (given_out n w)
shares_law n w e = after_shared n w _ (after n w e)

-- of every answer, by its promise alone
pub answer_law : (n : ℕ) (w g : List ℕ) (status : ℕ) → length w ≡ 4 → ServedFrames n → SharesAnswer n w g status → FairShares n w g
answer_law n w g status e r a =
    let z = a.status_is ∙ (status_zero (share_refusals n) (ServedFrames n ∷ []) (shares_listed n)).1 (r, tt) in
    rw (a.share_is, z) (shares_law n w e)
