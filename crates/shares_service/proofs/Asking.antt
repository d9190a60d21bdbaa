-- The search for a group that waits, and one frame, as the code goes.
--
--   Asking w t k i     group i is asked next, and k groups, i among them, are left to ask: the invariant of `first_waiting`
--   given-..           a frame goes to the group found, or none is found
--   asking             the rules
use mathlib.Core.Path.{◌≡◌, refl, sym, ◌∙◌}
use mathlib.Core.List.{List}
use Prim.Native.Nat.{ℕ, zero, suc, ◌+◌, ◌-◌, ◌<◌, ◌≤◌}
use native.Mathlib.Omega.{arith}
use mir.Syntax.{w32}
use mir.Val.{Fits}
use borrow.Author.Rules.{rules}
use borrow.Author.Tests.{lt-ltb, le-ltb, eq-eqb, ne_eqb}
use lib.ListN.{get_or}
use Rattle.shares_service.specs.GivingOut.{next_group, first_waiting_of, giving, give_to, give_frame_of}
use Rattle.shares_service.specs.GivingLaws.{found_waits}

pub record Asking (w : List ℕ) (t k i : ℕ) : Type 0 where
  pub inside : i < 4
  pub so : first_waiting_of w 4 t ≡ first_waiting_of w k i

module _ {w : List ℕ} {t i : ℕ} where
  pub found_here : {k : ℕ} → Asking w t k i → 0 < k → 0 < get_or w i 0 → i ≡ first_waiting_of w 4 t
  unfolding first_waiting_of
  found_here {k = zero} a l n = absurd (omega arith)
  found_here {k = suc k} a l n = sym (a.so ∙ rw (ne_eqb (get_or w i 0) 0 (λ z. omega arith)))

  pub passed_over : {k k' i' : ℕ} → Asking w t k i → 0 < k → get_or w i 0 ≤ 0 → i' ≡ next_group i → k' ≡ k - 1 → Asking w t k' i'
  unfolding first_waiting_of
  passed_over {k = zero} a l e ei ek = absurd (omega arith)
  passed_over {k = suc k} a l e ei ek =
      let z : suc k - 1 ≡ k = omega arith in
      rw (ei, ek) (record { inside = omega arith; so = a.so ∙ rw (eq-eqb (get_or w i 0) 0 (omega arith), z) })

  pub all_asked : {k : ℕ} → Asking w t k i → k ≤ 0 → 4 ≡ first_waiting_of w 4 t
  unfolding first_waiting_of
  all_asked {k = zero} a l = sym a.so
  all_asked {k = suc k} a l = absurd (omega arith)

module _ (t i : ℕ) (w g : List ℕ) (e : i ≡ first_waiting_of w 4 t) where
  module _ (l : i < 4) where
    pub found_some : 1 ≤ get_or w i 0
    found_some = rw e (found_waits 4 t w (omega (arith, e)))

    pub given_fits : ((j : ℕ) → get_or w j 0 + get_or g j 0 < 4294967296) → Fits w32 (get_or g i 0 + 1)
    given_fits h = record { fits = omega (arith, h i, found_some) }

    pub given_one : give_to i (giving t w g) ≡ give_frame_of (giving t w g)
    unfolding give_frame_of
    given_one = rw (← e, lt-ltb i 4 l)

  pub given_none : 4 ≤ i → giving t w g ≡ give_frame_of (giving t w g)
  unfolding give_frame_of
  given_none l = rw (← e, le-ltb i 4 l)

pub ruleset asking = (rules, found_here, passed_over, all_asked, found_some, given_fits, given_one, given_none)
