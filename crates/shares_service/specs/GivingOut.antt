-- S59: "Frames are given out one at a time in the order 1, 2, 3, 4 and round again, passing over a group with none left waiting, until N
-- are given or nothing waits." The groups 1, 2, 3 and 4 have the places 0, 1, 2 and 3 of a list.
--
--   next_group i         whose turn comes after that of group i
--   first_waiting_of w k i  the first of k groups, from i on in this order, that has one waiting in w; 4 where none has
--   Giving, giving       whose turn it is, what waits of each group, and what each was given; made of these three
--   give_to i s          a frame goes to group i, and the turn is that of the group after it
--   give_frame_of s         one frame
--   give_frames n s      n frames, one after the other
--   given_out n w        what each group is given of n frames, where w waits and the turn is that of group 1
use Rattle.std.specs.Prelude.{cond, List, [], ◌∷◌, ℕ, zero, suc, ◌+◌, ◌-◌, ◌%◌, ltb, eqb, get_or, set}

-- S59: "in the order 1, 2, 3, 4 and round again"
abbrev pub next_group : ℕ → ℕ
next_group i = (i + 1) % 4

-- S59: "passing over a group with none left waiting"
unfoldable pub first_waiting_of : List ℕ → ℕ → ℕ → ℕ
first_waiting_of w zero i = 4
first_waiting_of w (suc k) i = cond (eqb (get_or w i 0) 0) (first_waiting_of w k (next_group i)) i

pub record Giving : Type 0 where
  pub turn : ℕ
  pub waiting : List ℕ
  pub given : List ℕ

abbrev pub giving : ℕ → List ℕ → List ℕ → Giving
giving t w g = record { turn = t; waiting = w; given = g }

abbrev pub give_to : ℕ → Giving → Giving
give_to i s = giving (next_group i) (set s.waiting i (get_or s.waiting i 0 - 1)) (set s.given i (get_or s.given i 0 + 1))

-- S59: "until … nothing waits": then nothing changes
unfoldable pub give_frame_of : Giving → Giving
give_frame_of s = let i = first_waiting_of s.waiting 4 s.turn in cond (ltb i 4) (give_to i s) s

unfoldable pub give_frames : ℕ → Giving → Giving
give_frames zero s = s
give_frames (suc n) s = give_frame_of (give_frames n s)

-- "The planner says how many of each group go in."
abbrev pub given_out : ℕ → List ℕ → List ℕ
given_out n w = (give_frames n (giving 0 w (0 ∷ 0 ∷ 0 ∷ 0 ∷ []))).given
