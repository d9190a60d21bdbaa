-- What each place of an attempt asks, and what its answers come to, for words of any width: each rule takes the facts as the code hands
-- them over, so that `search attempt` finds them.
--
--   same_degree, lower_degree, factor_degree, unit_degree    the measure 8 d + k falls
--   …-asked      what a call asks
--   …-answer     what an answer says, from the answers it is made of
--   attempt      the rules
use mathlib.Core.Path.{◌≡◌, refl, sym, ap, subst, ◌∙◌}
use mathlib.Core.List.{List}
use Prim.Native.Nat.{ℕ, ◌+◌, ◌-◌, ◌*◌, ◌/◌, ◌%◌, ◌^◌, ◌≤◌, ◌<◌, ◌∣◌}
use native.Mathlib.Omega.{arith}
use lib.Dec.{T, ltb, ltb→lt}
use lib.ListN.{length, get_or}
use borrow.Author.Rules.{rules}
use borrow.Rule.Slice.PartMut.{mid_of, put_mid}
use Rattle.std.specs.Prelude.{Result, Ok}
use Rattle.definitions.specs.Residues.{IsUnit}
use Rattle.definitions.specs.Resultants.{resultant}
use Rattle.law_numbers.specs.Divisors.{GcdCofactor}
use Rattle.law_polynomials.specs.ResultantLaws.{signed}
use Rattle.windows.specs.Window.{piece, Below, Kept, Scratch}
use Rattle.residue.specs.declared.Split.{Split}
use Rattle.window_division.specs.Remainders.{Remainder}
use Rattle.window_factor.specs.Factors.{LeadingUnit, AllNilpotents, Given, Factored}
use Rattle.resultant_steps.specs.AttemptAnswers.{ValueOrSplit, Follows, IsAnswer, Partial, Lifted}
use Rattle.resultant_steps.specs.Layouts.{Primitive, ContentCleared, Beside, words_at, words_back}
use Rattle.resultant_steps.proofs.SideBySide.{onward}
use Rattle.resultant_steps.proofs.Contents.{first_of, lent, content_whole, content_times}
use Rattle.resultant_steps.proofs.AnswerChanges.{followed, answer_follows}
use Rattle.resultant_attempt.specs.Rooms.{place}
use Rattle.resultant_attempt.specs.AttemptStages.{Placed, DivisorPlaced, Stacked, Part}
use Rattle.resultant_attempt.proofs.Remaining.{at_constant, divisor_asked, divide_asked, next_asked, times_next}
use Rattle.resultant_attempt.proofs.Copies.{copies_fit, stacked_asked, stacked_answer, part_fits}
use Rattle.resultant_attempt.proofs.Copies.{monic_constant, monic_asked, monic_answer}
use Rattle.resultant_attempt.proofs.Copies.{monic_kept, kept_none, placed_part, unit_inverse}
use Rattle.resultant_attempt.proofs.Copies.{reversed_asked, reversed_sign, dropped_asked, dropped_sign}
use Rattle.resultant_attempt.proofs.Primitives.{stacked_fits, cleared_asked, cleared_divides, not_all_nilpotent}
use Rattle.resultant_attempt.proofs.Primitives.{lead_asked, lead_below, given_in}
use Rattle.resultant_attempt.proofs.Products.{monic_part, monic_lead, unit_part, unit_constant, product_times}

-- ---- the measure

pub same_degree : (d k l t : ℕ) → 8 * d + k ≡ t → T (ltb l k) → 8 * d + l < t
same_degree d k l t e h = omega (arith, ltb→lt l k h)

pub lower_degree : (d t : ℕ) → 1 ≤ d → 8 * d + 0 ≡ t → 8 * (d - 1) + 7 < t
lower_degree d t l e = omega arith

pub factor_degree : (d h t : ℕ) → h < d → 8 * d + 3 ≡ t → 8 * h + 1 < t
factor_degree d h t l e = omega arith

pub unit_degree : (d h t : ℕ) → 8 * d + 3 ≡ t → 8 * (d - h) + 2 < t
unit_degree d h t e = omega arith

pub positive : (d : ℕ) → (d ≡ 0 → ⊥) → 1 ≤ d
positive d h = omega arith

pub difference_positive : (t d : ℕ) → t < d → 1 ≤ d - t
difference_positive t d l = omega arith

not_zero : {d : ℕ} → 1 ≤ d → d ≡ 0 → ⊥
not_zero l e = omega arith

-- ---- the content

module _ {n d e : ℕ} {w : List ℕ} (st : Stacked n d e w) where
  pub clear_asked : (e + 1 + (d + 1) ≤ length w) × Below n 0 (e + 1) w
  clear_asked = (stacked_fits n d e w st, record { at = λ k l. st.below.at k (omega arith) })

  module _ {c : ℕ} {w' : List ℕ} (cl : ContentCleared n d e c w w') where
    pub whole_answer : c ≡ n → ValueOrSplit n (resultant n (piece w (e + 1) (d + 1)) (piece w 0 (e + 1))) (Ok 0)
    whole_answer = content_whole n c d e w w' st.two st.one st.near (stacked_fits n d e w st) st.below cl

    -- n' is the modulus that is left
    module _ {n' : ℕ} (ne : c ≡ n → ⊥) (is : n' ≡ n / c) where
      pub cleared_stacked : Stacked n' d e w'
      cleared_stacked = rw is (cleared_asked n c d e w w' st cl ne).0

      pub cleared_primitive : Primitive n' (piece w' (e + 1) (d + 1))
      cleared_primitive = rw is (cleared_asked n c d e w w' st cl ne).1

    module _ {n' : ℕ} {r : Result ℕ (Split ℕ)} (a : ValueOrSplit n' (resultant n' (piece w' (e + 1) (d + 1)) (piece w' 0 (e + 1))) r)
        (is : n' ≡ n / c) where
      pub lifted_asked : Partial n r
      lifted_asked = record { m = n'; divides = rw is (cleared_divides n c d e w w' cl); answer = record { x = _; is = a } }

      pub content_answer : {p : ℕ} {s u : Result ℕ (Split ℕ)} → (c ≡ n → ⊥) → p ≡ (c ^ e) % n → Lifted n r s → Follows n (λ x. (p * x) % n) s u
          → ValueOrSplit n (resultant n (piece w (e + 1) (d + 1)) (piece w 0 (e + 1))) u
      content_answer {p} ne hp li fo =
          followed fo (li.at _ _ (cleared_divides n c d e w w' cl) (rw is at a))
          (content_times n c d e w w' st.two st.one st.near (stacked_fits n d e w st) st.below cl ne p hp)

-- ---- a leading word that is 0

pub answer_of : {n : ℕ} {r : Result ℕ (Split ℕ)} (x : ℕ) → ValueOrSplit n x r → IsAnswer n r
answer_of x a = record { x = x; is = a }

pub sign_asked : {n : ℕ} {F : ℕ → ℕ} {r s : Result ℕ (Split ℕ)} (x : ℕ) → Follows n F r s → ValueOrSplit n x r → IsAnswer n s
sign_asked x f a = answer_follows f (answer_of x a)

pub dropped_answer : {n a d b e s : ℕ} {w : List ℕ} {q r u : Result ℕ (Split ℕ)} → Placed n a d b e s w → 1 ≤ d → get_or w (a + d) 0 ≡ 0
    → ValueOrSplit n (resultant n (piece w a (d - 1 + 1)) (piece w b (e + 1))) q → Follows n (λ x. (get_or w (b + e) 0 * x) % n) q r
    → Follows n (signed n (1 * e)) r u → ValueOrSplit n (resultant n (piece w a (d + 1)) (piece w b (e + 1))) u
dropped_answer {n} {a} {d} {b} {e} {s} {w} pl one z v f g = followed g (f.at _ v) (dropped_sign n a d b e s w pl one z)

-- ---- a division

pub constant_answer : {n a d b e s r : ℕ} {w : List ℕ} → Placed n a d b e s w → d ≡ 0 → r ≡ (get_or w (a + d) 0 ^ e) % n
    → ValueOrSplit n (resultant n (piece w a (d + 1)) (piece w b (e + 1))) (Ok r)
constant_answer {n} {a} {d} {b} {e} {s} {r} {w} pl z h = at_constant n a d b e s r w pl z h

pub inverse_of : {n x g i : ℕ} → GcdCofactor n x g i → g ≡ 1 → (i * x) % n ≡ 1 % n
inverse_of {n} c e = c.bezout ∙ ap (λ (y : ℕ). y % n) e

pub step_answer : {n a d b e s i p : ℕ} {w w₁ : List ℕ} {r u : Result ℕ (Split ℕ)} → DivisorPlaced n a d b e s i w → Remainder n a d b e w w₁
    → p ≡ (get_or w (a + d) 0 ^ (e + 1 - d)) % n → ValueOrSplit n (resultant n (piece w₁ b (d - 1 + 1)) (piece w₁ a (d + 1))) r
    → Follows n (λ x. (p * x) % n) r u → ValueOrSplit n (resultant n (piece w a (d + 1)) (piece w b (e + 1))) u
step_answer {n} {a} {d} {b} {e} {s} {i} {p} {w} {w₁} dv rem hp v f = followed f v (times_next n a d b e s i w w₁ dv rem p hp)

-- ---- copies

module _ {n a d b e s : ℕ} {w : List ℕ} (pl : Placed n a d b e s w) (one : 1 ≤ d) where
  pub copies_asked : (b + (e + 1) ≤ s) × ((a + (d + 1) ≤ s) × (s + (e + 1 + (d + 1)) ≤ length w))
  copies_asked = copies_fit n a d b e s w pl (not_zero one)

  module _ {w₁ : List ℕ} (bs : Beside (words_at w b) (words_at w a) (e + 1) (d + 1) s w w₁) where
    pub content_asked : Stacked n d e (onward w₁ s)
    content_asked = stacked_asked n a d b e s w w₁ pl (not_zero one) bs

    pub copies_answer : (r : Result ℕ (Split ℕ)) → ValueOrSplit n (resultant n (piece (onward w₁ s) (e + 1) (d + 1)) (piece (onward w₁ s) 0 (e + 1))) r
        → ValueOrSplit n (resultant n (piece w a (d + 1)) (piece w b (e + 1))) r
    copies_answer r = stacked_answer n a d b e s w w₁ pl (not_zero one) bs r

pub one_answer : {n a t e x : ℕ} {w : List ℕ} → Part n a t 0 e x w → get_or w (a + t) 0 ≡ 1 → t ≡ 0
    → ValueOrSplit n (resultant n (piece w a (t + 1)) (piece w 0 (e + 1))) (Ok 1)
one_answer {n} {a} {t} {e} {x} {w} pt h z = monic_constant n a t e x w pt h z

module _ {n a t e x : ℕ} {w w₁ : List ℕ} (pt : Part n a t 0 e x w) (bs : Beside (words_at w a) (words_at w 0) (t + 1) (e + 1) x w w₁) where
  pub monic_step_asked : get_or w (a + t) 0 ≡ 1 → (t ≡ 0 → ⊥) → DivisorPlaced n 0 t (t + 1) e (t + 1 + (e + 1)) 1 (onward w₁ x)
  monic_step_asked = monic_asked n a t e x w w₁ pt bs

  pub monic_step_answer : (r : Result ℕ (Split ℕ))
      → ValueOrSplit n (resultant n (piece (onward w₁ x) 0 (t + 1)) (piece (onward w₁ x) (t + 1) (e + 1))) r
      → ValueOrSplit n (resultant n (piece w a (t + 1)) (piece w 0 (e + 1))) r
  monic_step_answer r = monic_answer n a t e x w w₁ pt bs r

  pub monic_step_kept : (ys : List ℕ) {w₂ : List ℕ} → length ys ≡ length (onward w₁ x) → w₂ ≡ put_mid x (length w₁ - x) w₁ ys → Kept x w w₂
  monic_step_kept ys l q = subst (Kept x w) (sym q) (monic_kept n a t e x w w₁ pt bs ys l)

module _ {n a k b e x : ℕ} {w w₁ : List ℕ} (pt : Part n a k b e x w)
    (bs : Beside (words_back w a (k + 1)) (words_back w b (e + 1)) (k + 1) (e + 1) x w w₁) where
  pub reversed_step_asked : {i : ℕ} → 1 ≤ k → (i * get_or w a 0) % n ≡ 1 % n → DivisorPlaced n 0 k (k + 1) e (k + 1 + (e + 1)) i (onward w₁ x)
  reversed_step_asked {i} = reversed_asked n a k b e x w w₁ pt bs i

  pub reversed_is_answer : {r : Result ℕ (Split ℕ)}
      → ValueOrSplit n (resultant n (piece (onward w₁ x) 0 (k + 1)) (piece (onward w₁ x) (k + 1) (e + 1))) r
      → IsAnswer n r
  reversed_is_answer v = record { x = _; is = v }

  pub reversed_answer : {r u : Result ℕ (Split ℕ)}
      → ValueOrSplit n (resultant n (piece (onward w₁ x) 0 (k + 1)) (piece (onward w₁ x) (k + 1) (e + 1))) r
      → Follows n (signed n (k * e)) r u → ValueOrSplit n (resultant n (piece w a (k + 1)) (piece w b (e + 1))) u
  reversed_answer v f = followed f v (reversed_sign n a k b e x w w₁ pt bs)

-- ---- the highest coefficient that is not nilpotent

pub lead_lent : (n d e t i : ℕ) (w : List ℕ) → LeadingUnit n t i (first_of d e w) → LeadingUnit n t i (piece w (e + 1) (d + 1))
lead_lent n d e t i w = lent (LeadingUnit n t i) d e w

module _ {n d e t i : ℕ} {w : List ℕ} (st : Stacked n d e w) (u : LeadingUnit n t i (first_of d e w)) where
  pub lead_step_asked : t ≡ d → DivisorPlaced n (e + 1) d 0 e (e + 1 + (d + 1)) i w
  lead_step_asked = lead_asked n d e t i w st (lead_lent n d e t i w u)

  pub lead_below_degree : (t ≡ d → ⊥) → t < d
  lead_below_degree h = lead_below n d e t i w st (lead_lent n d e t i w u) h

pub nilpotent_answer : {n d e : ℕ} {w : List ℕ} (x : ℕ) (r : Result ℕ (Split ℕ)) → Stacked n d e w → Primitive n (piece w (e + 1) (d + 1))
    → AllNilpotents n (first_of d e w) → ValueOrSplit n x r
nilpotent_answer {n} {d} {e} {w} x r st p h =
    absurd (not_all_nilpotent n (piece w (e + 1) (d + 1)) st.two p (lent (AllNilpotents n) d e w h))

-- ---- the two factors

module _ {n d e t i : ℕ} {w : List ℕ} (st : Stacked n d e w) (lt : t < d) (u : LeadingUnit n t i (piece w (e + 1) (d + 1))) where
  pub given_room : d + 1 + (t + 1 + (d + 1)) ≤ length (onward w (e + 1))
  given_room = (given_in n d e t i w st lt u).0.1.1

  pub given_lead : Given n d t i (onward w (e + 1))
  given_lead = (given_in n d e t i w st lt u).1

module _ {n d e t : ℕ} {w ys : List ℕ} (st : Stacked n d e w) (lt : t < d) (ly : length ys ≡ length (onward w (e + 1)))
    (fc : Factored n d t (onward w (e + 1)) ys) where
  abbrev joined : List ℕ
  joined = put_mid (e + 1) (length w - (e + 1)) w ys

  pub monic_part_asked : Part n (e + 1 + (d + 1)) t 0 e (place d e t) joined
  monic_part_asked = monic_part n d e t w ys st lt ly fc

  pub monic_lead_asked : get_or joined (e + 1 + (d + 1) + t) 0 ≡ 1
  monic_lead_asked = monic_lead n d e t w ys st lt ly fc

  module _ {w₂ : List ℕ} (kp : Kept (place d e t) joined w₂) where
    pub unit_part_asked : Part n (e + 1 + (d + 1) + (t + 1) + t) (d - t) 0 e (place d e t) w₂
    unit_part_asked = unit_part n d e t w ys st lt ly fc w₂ kp

    pub unit_constant_asked : IsUnit n (get_or w₂ (e + 1 + (d + 1) + (t + 1) + t) 0)
    unit_constant_asked = unit_constant n d e t w ys st lt ly fc w₂ kp

    -- at a place too deep to search for a record that holds the conclusion's own numbers: variables, with an equation for each
    pub factors_answer : {y n' x' : ℕ} {q r u u' : Result ℕ (Split ℕ)}
        → ValueOrSplit n (resultant n (piece joined (e + 1 + (d + 1)) (t + 1)) (piece joined 0 (e + 1))) q → q ≡ Ok y
        → ValueOrSplit n (resultant n (piece w₂ (e + 1 + (d + 1) + (t + 1) + t) (d - t + 1)) (piece w₂ 0 (e + 1))) r
        → Follows n (λ x. (y * x) % n) r u → n' ≡ n → x' ≡ resultant n (piece w (e + 1) (d + 1)) (piece w 0 (e + 1)) → u' ≡ u
        → ValueOrSplit n' x' u'
    factors_answer {y} {n'} {x'} {q} {r} {u} {u'} hq ey v f en ex eu =
        let hy = subst (ValueOrSplit n _) ey hq in
        rw (en, ex, eu) (followed f v (product_times n d e t w ys st lt ly fc w₂ kp y hy.0))

pub ruleset degrees = (same_degree, lower_degree, factor_degree, unit_degree, positive, difference_positive)

pub ruleset contents = (clear_asked, whole_answer, cleared_stacked, cleared_primitive, lifted_asked)

pub ruleset answers = (content_answer)

pub ruleset divisions = (
  sign_asked,
  dropped_asked,
  dropped_answer,
  inverse_of,
  constant_answer,
  divisor_asked,
  divide_asked,
  next_asked,
  step_answer,
)

pub ruleset copies = (copies_asked, content_asked, copies_answer, part_fits, placed_part, unit_inverse, kept_none)

pub ruleset parts = (
  one_answer,
  monic_step_asked,
  monic_step_answer,
  monic_step_kept,
  reversed_step_asked,
  reversed_is_answer,
  reversed_answer,
)

pub ruleset leads = (lead_lent, lead_step_asked, nilpotent_answer)

pub ruleset factors = (given_room, given_lead, monic_part_asked, monic_lead_asked, unit_part_asked, unit_constant_asked)

pub ruleset attempt = (rules, degrees, contents, answers, divisions, copies, parts, leads, factors)
