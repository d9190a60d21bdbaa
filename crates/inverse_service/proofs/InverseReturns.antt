-- What `inverse` returns, at each of its ends.
--
--   late, late_accepted              what the code tests after the refusals 1, 2 and 3, and what is known where none of it applies
--   lead_apart, place_apart, place_far, lead_at_zero     the test of the leading coefficient and of its place
--   below_by, above_by               the test of a length
--   inverse_refused, inverse_late, inverse_done     the answers
--   modulus_told, modulus_one, some_told, place_told, place_scaled, length_fits, length_fits_one, length_of, length_of_one
--                                    what is known after the refusals 1, 2 and 3
--   room_told, inverse_asked         and after the others
--   tests                            the rules of the refusals
use mathlib.Core.Path.{◌≡◌, refl, sym, ap, ap₂, subst, ◌∙◌}
use mathlib.Core.Bool.{Bool, true, false, not, cond}
use mathlib.Core.List.{List, [], ◌∷◌}
use Prim.Native.Nat.{ℕ, zero, suc, ◌+◌, ◌-◌, ◌*◌, ◌^◌, ◌≤◌, ◌<◌}
use native.Mathlib.Nat.{mul-le-mul, sub-zero}
use native.Mathlib.Numerals.{add-one}
use native.Mathlib.Omega.{arith}
use borrow.Author.Tests.{eq-eqb, ne_eqb, lt-ltb, le-ltb}
use borrow.Rule.Slice.PartMut.{mid_of, put_mid, mid_len}
use lib.Dec.{T, eqb, ltb, leb, leb→le, ltb→lt}
use mir.Syntax.{w64}
use mir.Val.{Fits}
use lib.ListN.{length, get_or, replicate}
use Rattle.definitions.specs.Residues.{K, Inverse}
use Rattle.definitions.specs.Polynomials.{coef, UnitPolynomial, InverseOf}
use Rattle.law_numbers.specs.Divisors.{GcdCofactor}
use Rattle.law_numbers.specs.Units.{cofactor_inverse}
use Rattle.law_numbers.specs.Logarithm.{K_below}
use Rattle.refusals.specs.Refusals.{Width, Tested, short, first_refusal, refusals_one}
use Rattle.refusals.specs.Conditions.{Accepted, Fails, accepted_one, status_zero, short_fails, equal_fails, either_fails}
use Rattle.refusals.proofs.Cascade.{cascade}
use Rattle.refusals.proofs.Statuses.{refused_early, passed_on, left_refused}
use Rattle.law_polynomial_tests.specs.Buffers.{deg_is, placed_take, placed_drop}
use Rattle.law_polynomial_tests.specs.UnitTests.{lead_place, is_unit_polynomial, test_polynomial}
use Rattle.unit_monic_service.proofs.LeadingPlace.{lead_of, lead_inside}
use Rattle.inverse_service.specs.InverseService.{inverse_length, InverseLeft, InverseAnswer}
use Rattle.inverse_service.specs.InverseStages.{InverseAsked}

-- g is what the leading coefficient, at t, has in common with n
abbrev pub late : Width → ℕ → ℕ → ℕ → ℕ → ℕ → List Tested
late W g t lo m l = (5, not (cond (eqb g 1) (eqb t 0) false)) ∷ (6, short lo m) ∷ (7, short l W.working) ∷ []

pub record InverseAccepted (W : Width) (g t lo m l : ℕ) : Type 0 where
  pub one : g ≡ 1
  pub constant : t ≡ 0
  pub room : m ≤ lo
  pub working : W.working ≤ l

-- a unit, at place 0
both_fails : (g t : ℕ) → Fails (not (cond (eqb g 1) (eqb t 0) false)) ((g ≡ 1) × (t ≡ 0))
both_fails g t =
    subst (λ (b : Bool). Fails b ((g ≡ 1) × (t ≡ 0))) (go (eqb g 1) (eqb t 0))
    (either_fails (equal_fails g 1) (equal_fails t 0) (λ a b. (a, b)) (λ p. p.0) (λ p. p.1))
  where
    go : (a b : Bool) → cond (not a) true (not b) ≡ not (cond a b false)
    go true b = refl
    go false b = refl

pub lead_apart : (g t : ℕ) → (g ≡ 1 → ⊥) → not (cond (eqb g 1) (eqb t 0) false) ≡ true
lead_apart g t h = ap (λ (x : Bool). not (cond x (eqb t 0) false)) (ne_eqb g 1 h)

pub place_apart : (g t : ℕ) → g ≡ 1 → (t ≡ 0 → ⊥) → not (cond (eqb g 1) (eqb t 0) false) ≡ true
place_apart g t e h = ap₂ (λ (x y : Bool). not (cond x y false)) (eq-eqb g 1 e) (ne_eqb t 0 h)

pub lead_at_zero : (g t : ℕ) → g ≡ 1 → t ≡ 0 → not (cond (eqb g 1) (eqb t 0) false) ≡ false
lead_at_zero g t e h = ap₂ (λ (x y : Bool). not (cond x y false)) (eq-eqb g 1 e) (eq-eqb t 0 h)

pub place_far : (g t k : ℕ) → g ≡ 1 → k < t → not (cond (eqb g 1) (eqb t 0) false) ≡ true
place_far g t k e l = place_apart g t e (omega arith)

-- a length against a bound that is not that of the test
pub below_by : (l b c : ℕ) → l < c → T (leb c b) → ltb l b ≡ true
below_by l b c h t = lt-ltb l b (omega (arith, leb→le c b t))

pub above_by : (l b c : ℕ) → c ≤ l → T (leb b c) → ltb l b ≡ false
above_by l b c h t = le-ltb l b (omega (arith, leb→le b c t))

pub ruleset tests = (cascade, lead_apart, place_apart, place_far, lead_at_zero, below_by, above_by)

late_accepted : (W : Width) (g t lo m l r : ℕ) → r ≡ first_refusal (late W g t lo m l) → r ≡ 0 → InverseAccepted W g t lo m l
late_accepted W g t lo m l r is z =
    let p = (status_zero (late W g t lo m l) (((g ≡ 1) × (t ≡ 0)) ∷ (m ≤ lo) ∷ (W.working ≤ l) ∷ [])
    ((omega arith, both_fails g t), ((omega arith, short_fails lo m), ((omega arith, short_fails l W.working), tt)))).0 (sym is ∙ z) in
    record { one = p.0.0; constant = p.0.1; room = p.1.0; working = p.1.1.0 }

length_is : (n k : ℕ) (f : List ℕ) → k ≡ K n → k * (length f - 1) + 1 ≡ inverse_length n f
length_is n k f e = add-one (k * (length f - 1)) ∙ ap suc (ap₂ (λ (x y : ℕ). x * y) e (sym (deg_is f)))

-- K is at most 62 at both widths
length_small : (n k l : ℕ) → 1 ≤ n → n < 9223372036854775808 → k ≡ K n → l ≤ 49 → k * (l - 1) ≤ 2976
length_small n k l pos h e m =
    mul-le-mul {n₁ = k} {m₁ = l - 1} {n₂ = 62} {m₂ = 48} (let z = K_below n 63 pos h in omega arith) (omega arith)

nothing_left : (s n : ℕ) (f out : List ℕ) → (s ≡ 0 → ⊥) → InverseLeft s n f out out
nothing_left zero n f out b = absurd (b refl)
nothing_left (suc s) n f out b = refl

module _ (W : Width) (n s : ℕ) (f out work : List ℕ) (is : s ≡ first_refusal (refusals_one W n f)) where
  tests_of : List Tested
  tests_of = (5, not (is_unit_polynomial n f)) ∷ (6, short (length out) (inverse_length n f)) ∷ (7, short (length work) W.working) ∷ []

  pub inverse_refused : (s ≡ 0 → ⊥) → InverseAnswer W n f out out work work 0 s
  unfolding tests_of
  inverse_refused b = record {
    status_is = refused_early (refusals_one W n f) tests_of s is b;
    value_is = refl;
    result = nothing_left s n f out b;
    work_is = left_refused s work b;
  }

  module _ (z : s ≡ 0) (t g v k r : ℕ) (et : t ≡ lead_place n f) (cf : GcdCofactor n (get_or f t 0) g v)
      (ek : k ≡ K n) (er : r ≡ first_refusal (late W g t (length out) (k * (length f - 1) + 1) (length work))) where
    a : Accepted W n f
    a = accepted_one W n f (sym is ∙ z)

    unit_is : is_unit_polynomial n f ≡ cond (eqb g 1) (eqb t 0) false
    unit_is = ap₂ (λ (x : Bool) (y : ℕ). cond x (eqb y 0) false) (lead_of n t g v f a.modulus a.some et cf) (sym et)

    -- the code tests what is asked
    late_is : first_refusal (late W g t (length out) (k * (length f - 1) + 1) (length work)) ≡ first_refusal tests_of
    unfolding tests_of
    late_is =
        ap₂ (λ (b : Bool) (m : ℕ). first_refusal ((5, not b) ∷ (6, short (length out) m) ∷ (7, short (length work) W.working) ∷ []))
        (sym unit_is) (length_is n k f ek)

    pub inverse_late : (r ≡ 0 → ⊥) → InverseAnswer W n f out out work work 0 r
    unfolding tests_of
    inverse_late b = record {
      status_is = passed_on (refusals_one W n f) tests_of s r is z (er ∙ late_is);
      value_is = refl;
      result = nothing_left r n f out b;
      work_is = left_refused r work b;
    }

    -- f is a unit polynomial, and v the inverse of its constant
    inverse_unit : g ≡ 1 → t ≡ 0 → (UnitPolynomial n f) × Inverse n (coef f 0) v
    inverse_unit one o = (
      test_polynomial (omega (arith, a.modulus))
          (unit_is ∙ ap₂ (λ (x y : Bool). cond x y false) (eq-eqb g 1 one) (eq-eqb t 0 o)),
      subst (λ (x : ℕ). Inverse n (coef f x) v) o (cofactor_inverse a.modulus cf one),
    )

    pub inverse_done : r ≡ 0 → {out' : List ℕ} (ys work' : List ℕ) → InverseOf n f ys → work' ≡ replicate (length work) 0
        → out' ≡ put_mid 0 (k * (length f - 1) + 1 - 0) out ys → InverseAnswer W n f out out' work work' 0 0
    unfolding tests_of
    inverse_done w ys work' d c eo =
        let m : ℕ = k * (length f - 1) + 1 in
        rw eo (record {
          status_is = passed_on (refusals_one W n f) tests_of s 0 is z (sym w ∙ er ∙ late_is);
          value_is = refl;
          result = record {
            inverse = subst (InverseOf n f) (sym (placed_take (m - 0) (inverse_length n f) out ys d.length_w)) d;
            rest = placed_drop (m - 0) (inverse_length n f) out ys d.length_w (sub-zero m ∙ length_is n k f ek);
          };
          work_is = c;
        })

    asked_of : n < 9223372036854775808 → 3026 ≤ W.working → r ≡ 0 → InverseAsked n v f (mid_of 0 (k * (length f - 1) + 1 - 0) out) work
    asked_of small enough w =
        let m : ℕ = k * (length f - 1) + 1 in
        let b = late_accepted W g t (length out) m (length work) r er w in
        let u = inverse_unit b.one b.constant in
        let l : length (mid_of 0 (m - 0) out) ≡ m = mid_len 0 m out b.room ∙ sub-zero m in
        record {
          modulus = a.modulus;
          some = a.some;
          residues = a.residues;
          unit = u.0;
          inverse = u.1;
          length_out = l ∙ length_is n k f ek;
          room = omega (arith, l, b.working, a.few, length_small n k (length f) (omega (arith, a.modulus)) small ek a.few);
        }

-- the width of moduli below B and of M working words
abbrev of : ℕ → ℕ → Width
of B M = record { bound = B; working = M }

module _ (B n s : ℕ) (f : List ℕ) (is : s ≡ first_refusal (refusals_one (of B 0) n f)) (z : s ≡ 0) where
  known : Accepted (of B 0) n f
  known = accepted_one (of B 0) n f (sym is ∙ z)

  pub modulus_told : {m : ℕ} → m ≡ n → 2 ≤ m
  modulus_told e = omega (arith, known.modulus)

  pub modulus_one : {m : ℕ} → m ≡ n → 1 ≤ m
  modulus_one e = omega (arith, known.modulus)

  pub some_told : {l : ℕ} → l ≡ length f → 1 ≤ l
  some_told e = omega (arith, known.some)

  module _ (t : ℕ) (et : t ≡ lead_place n f) where
    pub place_told : {a b : ℕ} → a ≡ t → b ≡ length f → a < b
    place_told ea eb = omega (arith, lead_inside n t f known.some et)

    pub place_scaled : (a k : ℕ) → T (leb k 8) → a ≡ t → Fits w64 (a * k)
    place_scaled a k l ea = record {
      fits = omega (
        arith,
        mul-le-mul {n₁ = a} {m₁ = k} {n₂ = 49} {m₂ = 8} (omega (arith, lead_inside n t f known.some et, known.few))
            (leb→le k 8 l),
      );
    }

  module _ (m k : ℕ) (ek : k ≡ K m) where
    size_fits : 1 ≤ m → m < 9223372036854775808 → k * (length f - 1) ≤ 2976
    size_fits one top = length_small m k (length f) one top ek known.few

    -- of a modulus that is written out
    pub length_of : (a b : ℕ) → T (leb 1 m) → T (ltb m 9223372036854775808) → a ≡ k → b ≡ length f - 1 → Fits w64 (a * b)
    length_of a b one top ea eb = rw (ea, eb) (record { fits = omega (arith, size_fits (leb→le 1 m one) (ltb→lt m _ top)) })

    pub length_of_one : (a b : ℕ) → T (leb 1 m) → T (ltb m 9223372036854775808) → a ≡ k → b ≡ length f - 1 → Fits w64 (a * b + 1)
    length_of_one a b one top ea eb = rw (ea, eb) (record { fits = omega (arith, size_fits (leb→le 1 m one) (ltb→lt m _ top)) })

  module _ (k : ℕ) (ek : k ≡ K n) (big : T (leb B 9223372036854775808)) where
    below_top : n < 9223372036854775808
    below_top = omega (arith, known.bounded, leb→le B 9223372036854775808 big)

    small : k * (length f - 1) ≤ 2976
    small = size_fits n k ek (omega (arith, known.modulus)) below_top

    pub length_fits : (a b : ℕ) → a ≡ k → b ≡ length f - 1 → Fits w64 (a * b)
    length_fits a b ea eb = rw (ea, eb) (record { fits = omega (arith, small) })

    pub length_fits_one : (a b : ℕ) → a ≡ k → b ≡ length f - 1 → Fits w64 (a * b + 1)
    length_fits_one a b ea eb = rw (ea, eb) (record { fits = omega (arith, small) })

    pub inverse_asked : {n' v' : ℕ} {f' out' work' : List ℕ} (M t g v r : ℕ) (out work : List ℕ) → t ≡ lead_place n f
        → GcdCofactor n (get_or f t 0) g v
        → r ≡ first_refusal (late (of B M) g t (length out) (k * (length f - 1) + 1) (length work)) → r ≡ 0 → T (leb 3026 M)
        → n' ≡ n → v' ≡ v → f' ≡ f → out' ≡ mid_of 0 (k * (length f - 1) + 1 - 0) out → work' ≡ work → InverseAsked n' v' f' out' work'
    inverse_asked M t g v r out work et cf er w enough en ev ef eo ew =
        rw (en, ev, ef, eo, ew) (asked_of (of B M) n s f out work is z t g v k r et cf ek er below_top (leb→le 3026 M enough) w)

pub room_told : {a b : ℕ} (M g t lo m l r : ℕ) → r ≡ first_refusal (late (of 0 M) g t lo m l) → r ≡ 0 → a ≡ m → b ≡ lo → a ≤ b
room_told M g t lo m l r er w ea eb = omega (arith, (late_accepted (of 0 M) g t lo m l r er w).room)

pub ruleset lengths = (tt, length_fits, length_fits_one, length_of, length_of_one)
