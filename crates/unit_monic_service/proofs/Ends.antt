-- What each place of `unit_times_monic` asks, at the width W: from the facts as the code has them.
--
--   modulus_told, place_told, place_scaled, place_word    after the refusals 1, 2 and 3
--   room_first, room_second, words_asked                  after the others
use mathlib.Core.Path.{◌≡◌, sym, ◌∙◌}
use mathlib.Core.List.{List}
use Prim.Native.Nat.{ℕ, ◌-◌, ◌*◌, ◌^◌, ◌≤◌, ◌<◌}
use native.Mathlib.Nat.{sub-zero}
use native.Mathlib.Omega.{arith}
use borrow.Author.Rules.{scaled_Fits}
use borrow.Rule.Slice.PartMut.{mid_of}
use lib.Dec.{T, leb, leb→le}
use lib.ListN.{length, get_or}
use mir.Syntax.{w32, w64}
use mir.Val.{Fits}
use Rattle.law_numbers.specs.Divisors.{GcdCofactor}
use Rattle.windows.proofs.Lift.{mid_length}
use Rattle.refusals.specs.Refusals.{Width, first_refusal, refusals_one}
use Rattle.refusals.specs.Conditions.{Accepted, accepted_one}
use Rattle.law_polynomial_tests.specs.UnitTests.{lead_place}
use Rattle.unit_monic_service.specs.UnitMonicStages.{FactorsAsked}
use Rattle.unit_monic_service.proofs.LeadingPlace.{lead_inside, leading}
use Rattle.unit_monic_service.proofs.UnitMonicReturns.{late, LateAccepted, late_accepted}

module _ (W : Width) (n s : ℕ) (f : List ℕ) (is : s ≡ first_refusal (refusals_one W n f)) (z : s ≡ 0) where
  accepted : Accepted W n f
  accepted = accepted_one W n f (sym is ∙ z)

  pub modulus_told : 2 ≤ n
  modulus_told = accepted.modulus

  pub modulus_one : 1 ≤ n
  modulus_one = omega (arith, accepted.modulus)

  module _ (t : ℕ) (et : t ≡ lead_place n f) where
    pub place_told : t < length f
    place_told = lead_inside n t f accepted.some et

    pub place_scaled : (k : ℕ) → length f * k < 2 ^ 63 → Fits w64 (t * k)
    place_scaled k h = scaled_Fits t (length f) k place_told h

    pub place_word : Fits w32 t
    place_word = record { fits = omega (arith, place_told, accepted.few) }

    module _ (g v r : ℕ) (u h work : List ℕ) (cf : GcdCofactor n (get_or f t 0) g v)
        (er : r ≡ first_refusal (late W g (length u) (length h) (length f) (length work))) where
      module _ (w : r ≡ 0) where
        late_known : LateAccepted W g (length u) (length h) (length f) (length work)
        late_known = late_accepted W g (length u) (length h) (length f) (length work) r er w

        pub room_first : length f ≤ length u
        room_first = late_known.room_u

        pub room_second : length f ≤ length h
        room_second = late_known.room_h

        words : T (leb 147 W.working) → FactorsAsked n t v f (mid_of 0 (length f - 0) u) (mid_of 0 (length f - 0) h) work
        words big =
            let enough : 147 ≤ W.working = leb→le 147 W.working big in
            record {
              modulus = accepted.modulus;
              residues = accepted.residues;
              lead = leading n t g v f accepted.modulus accepted.some et cf late_known.one;
              length_u = mid_length 0 (length f - 0) u (omega (arith, room_first)) ∙ sub-zero _;
              length_h = mid_length 0 (length f - 0) h (omega (arith, room_second)) ∙ sub-zero _;
              room = omega (arith, late_known.working, accepted.few);
            }

        pub words_asked : {n' t' v' : ℕ} {f' u' h' work' : List ℕ} → T (leb 147 W.working) → n' ≡ n → t' ≡ t → v' ≡ v → f' ≡ f
            → u' ≡ mid_of 0 (length f - 0) u → h' ≡ mid_of 0 (length f - 0) h → work' ≡ work → FactorsAsked n' t' v' f' u' h' work'
        words_asked big en et' ev ef eu eh ew = rw (en, et', ev, ef, eu, eh, ew) (words big)
