-- What each stage of an attempt asks of the buffer w: f of degree d, g of degree e, d at most e.
--
--   Placed                   f at a, g at b, and room from s on
--   DivisorPlaced            the same, the leading word of f with the inverse i
--   Stacked                  g at 0 and f above it, and room above both
--   Part                     f, or a factor of it, at a, g at b, and room for both and for a division from x on
use Rattle.std.specs.Prelude.{◌≡◌, List, ℕ, ◌+◌, ◌-◌, ◌*◌, ◌%◌, ◌<◌, ◌≤◌, length, get_or}
use Rattle.windows.specs.Window.{Below}
use Rattle.window_division.specs.Remainders.{Pair}
use Rattle.resultant_attempt.specs.Rooms.{room}

pub record Placed (n a d b e s : ℕ) (w : List ℕ) : Type 0 where
  pub two : 2 ≤ n
  pub near : d ≤ e
  pub first : a + d < s
  pub second : b + e < s
  pub fits : s + room d e ≤ length w
  pub pair : Pair n a d b e w

pub record DivisorPlaced (n a d b e s i : ℕ) (w : List ℕ) : Type 0 where
  pub two : 2 ≤ n
  pub one : 1 ≤ d
  pub near : d ≤ e
  pub first : a + d < s
  pub second : b + e < s
  pub fits : s + room (d - 1) d ≤ length w
  pub pair : Pair n a d b e w
  pub inverse : (i * get_or w (a + d) 0) % n ≡ 1 % n

pub record Stacked (n d e : ℕ) (w : List ℕ) : Type 0 where
  pub two : 2 ≤ n
  pub one : 1 ≤ d
  pub near : d ≤ e
  pub fits : room d e ≤ length w
  pub below : Below n 0 (e + 1 + (d + 1)) w

pub record Part (n a d b e x : ℕ) (w : List ℕ) : Type 0 where
  pub two : 2 ≤ n
  pub near : d ≤ e
  pub first : a + (d + 1) ≤ x
  pub second : b + (e + 1) ≤ x
  pub fits : x + (d + 1 + (e + 1) + room (d - 1) d) ≤ length w
  pub below_first : Below n a (d + 1) w
  pub below_second : Below n b (e + 1) w
