-- The promise of the resultant of two variables at each place where it returns.
--
--   accepted, room_accepted    what is known once none of the refusals 1, 2 and 3, or 12, 11, 6 and 7, applies
--   either_hit, either_miss, shape_length, shape_fits    the test of degrees and length
--   product_fits, sum_fits     the products of degrees that B is made of
--   few_d, few_a, few_e, few_b    the degrees that were served
--   prepared                   what the run asks, once none applies
--   wiped                      the working buffer after an answer
--   refused_sent, refused_room, done
--   shapes, degrees, answers   the rules
use mathlib.Core.Path.{◌≡◌, refl, sym, ap, subst, ◌∙◌}
use mathlib.Core.Bool.{Bool, true, false, not, cond}
use mathlib.Core.List.{List, [], ◌∷◌, ◌++◌}
use Prim.Native.Nat.{ℕ, suc, ◌+◌, ◌-◌, ◌*◌, ◌≤◌, ◌<◌}
use native.Mathlib.Nat.{mul-le-mul, zero-add}
use native.Mathlib.Numerals.{add-one}
use native.Mathlib.Omega.{arith}
use lib.Dec.{eqb}
use borrow.Author.Tests.{lt-ltb, le-ltb}
use mir.Syntax.{w64}
use mir.Val.{Fits}
use borrow.Author.Rules.{rules}
use lib.ListN.{length, drop, replicate}
use Rattle.definitions.specs.Polynomials.{coef, tabulate, Residues}
use Rattle.definitions.specs.Bivariate.{bivariate_resultant_of, bivariate_degree}
use Rattle.law_numbers.specs.PrimeTable.{NoSmallPrime, none_differences}
use Rattle.law_polynomials.specs.Words.{coef_tabulate, length_tabulate}
use Rattle.refusals.specs.Refusals.{narrow, short, replaced, first_refusal}
use Rattle.refusals.specs.Conditions.{ServedModulus, status_zero, modulus_fails, words_fail, short_fails}
use Rattle.refusals.specs.Fronts.{front_is}
use Rattle.refusals.proofs.Cascade.{cascade}
use Rattle.refusals.proofs.Statuses.{refused_early, passed_on, left_refused, replaced_refused}
use Rattle.windows.specs.Window.{Written, Scratch}
use Rattle.bivariate.specs.PairLengthsAsked.{Prepared}
use Rattle.bivariate_service.specs.BivariateService.{bivariate_sent, bivariate_room, SentTold, RoomTold, ServedShape, shape_fails}
use Rattle.bivariate_service.specs.BivariateService.{prime_fails, BivariateAnswer}

-- the first words written: the list is replaced
written_front : (F : ℕ → ℕ) (l : ℕ) (w w' : List ℕ) → l ≤ length w → Written F 0 l w w' → w' ≡ replaced 0 (tabulate l F) w
written_front F l w w' r h =
    front_is l x w w' long r h.same (λ i q. ap (coef w') (sym (zero-add i)) ∙ h.mid i q ∙ sym (coef_tabulate l F i q))
    (λ i q. h.high i (omega arith))
    ∙ ap (λ (k : ℕ). x ++ drop k w) (sym long)
  where
    x : List ℕ
    x = tabulate l F

    long : length x ≡ l
    long = length_tabulate l F

-- n, f and g are served
record BivariateAccepted (n : ℕ) (f : List ℕ) (d a : ℕ) (g : List ℕ) (e b : ℕ) : Type 0 where
  pub modulus : 2 ≤ n
  pub first : ServedShape d a f
  pub second : ServedShape e b g

accepted : {n : ℕ} {f : List ℕ} {d a : ℕ} {g : List ℕ} {e b s : ℕ} → SentTold narrow n f d a g e b s → s ≡ 0
    → BivariateAccepted n f d a g e b
accepted {n} {f} {d} {a} {g} {e} {b} t z =
    let p = (status_zero (bivariate_sent narrow n f d a g e b)
    (ServedModulus narrow n ∷ ServedShape d a f ∷ ServedShape e b g ∷ Residues n f ∷ Residues n g ∷ []) (
      (omega arith, modulus_fails narrow n),
      (
        (omega arith, shape_fails d a f),
        (
          (omega arith, shape_fails e b g),
          ((omega arith, words_fail n f), ((omega arith, words_fail n g), tt)),
        ),
      ),
    )).0 (sym t.is ∙ z) in
    record { modulus = p.0.least; first = p.1.0; second = p.1.1.0 }

record RoomAccepted (n B l m : ℕ) : Type 0 where
  pub most : B ≤ 60
  pub none : NoSmallPrime n B
  pub out : suc B ≤ l
  pub working : 8192 ≤ m

room_accepted : {n B l m t : ℕ} → RoomTold narrow n B l m t → t ≡ 0 → RoomAccepted n B l m
room_accepted {n} {B} {l} {m} h z =
    let p = (status_zero (bivariate_room narrow n B l m) ((B ≤ 60) ∷ NoSmallPrime n B ∷ (suc B ≤ l) ∷ (8192 ≤ m) ∷ []) (
      (omega arith, short_fails 60 B),
      (
        (omega arith, prime_fails n B),
        (
          (omega arith, short_fails l (suc B)),
          ((omega arith, short_fails m 8192), tt),
        ),
      ),
    )).0 (sym h.is ∙ z) in
    record { most = p.0; none = p.1.0; out = p.1.1.0; working = p.1.1.1.0 }

-- a test of two that applies, and one that does not
pub either_hit : (x y : Bool) → x ≡ true → true ≡ cond x true y
either_hit x y e = sym (ap (λ (t : Bool). cond t true y) e)

pub either_miss : (v x y : Bool) → x ≡ false → v ≡ y → v ≡ cond x true y
either_miss v x y e h = h ∙ sym (ap (λ (t : Bool). cond t true y) e)

-- the length that fits the degrees, as the code has it
pub shape_length : (l d a : ℕ) → not (eqb l ((d + 1) * (a + 1))) ≡ not (eqb l (suc d * suc a))
shape_length l d a = ap (λ (x : ℕ). not (eqb l x)) (omega arith)

pub shape_fits : (d a : ℕ) → d ≤ 48 → a ≤ 48 → Fits w64 ((d + 1) * (a + 1))
shape_fits d a p q = record { fits = omega (arith, mul-le-mul {n₁ = d + 1} {m₁ = a + 1} {n₂ = 49} {m₂ = 49} (omega arith) (omega arith)) }

pub ruleset shapes = (cascade, either_hit, either_miss, shape_length, shape_fits)

-- the length that B asks for, as the code has it
pub lacks_room : (l b : ℕ) → l < b + 1 → short l (suc b) ≡ true
lacks_room l b h = lt-ltb l (suc b) (omega arith)

pub has_room : (l b : ℕ) → b + 1 ≤ l → short l (suc b) ≡ false
has_room l b h = le-ltb l (suc b) (omega arith)

-- the products of a degree in y and one in z, and the sum of two
small : (x y : ℕ) → x ≤ 48 → y ≤ 48 → x * y ≤ 2304
small x y p q = mul-le-mul {n₁ = x} {m₁ = y} {n₂ = 48} {m₂ = 48} p q

pub product_fits : (x y : ℕ) → x ≤ 48 → y ≤ 48 → Fits w64 (x * y)
product_fits x y p q = record { fits = omega (arith, small x y p q) }

pub sum_fits : (x y u v : ℕ) → x ≤ 48 → y ≤ 48 → u ≤ 48 → v ≤ 48 → Fits w64 (x * y + u * v)
sum_fits x y u v p q r t = record { fits = omega (arith, small x y p q, small u v r t) }

pub ruleset degrees = (rules, product_fits, sum_fits)

-- the degrees that were served
module _ {n : ℕ} {f : List ℕ} {d a : ℕ} {g : List ℕ} {e b s : ℕ} (told : SentTold narrow n f d a g e b s) (z : s ≡ 0) where
  pub few_d : d ≤ 48
  few_d = (accepted told z).first.most_y

  pub few_a : a ≤ 48
  few_a = (accepted told z).first.most_z

  pub few_e : e ≤ 48
  few_e = (accepted told z).second.most_y

  pub few_b : b ≤ 48
  few_b = (accepted told z).second.most_z

room_told : {n x y l m t : ℕ} → RoomTold narrow n x l m t → x ≡ y → t ≡ first_refusal (bivariate_room narrow n y l m)
room_told {n} {x} {y} {l} {m} {t} h e = subst (λ (b : ℕ). t ≡ first_refusal (bivariate_room narrow n b l m)) e h.is

-- the working buffer after an answer
pub wiped : {w w₁ w₂ : List ℕ} → Scratch w w₁ → w₂ ≡ replicate (length w₁) 0 → w₂ ≡ replicate (length w) 0
wiped s e = e ∙ ap (λ (l : ℕ). replicate l 0) s.same

module _ {n : ℕ} {f : List ℕ} {d a : ℕ} {g : List ℕ} {e b : ℕ} {out work : List ℕ} {s : ℕ}
    (told : SentTold narrow n f d a g e b s) where
  pub refused_sent : (s ≡ 0 → ⊥) → BivariateAnswer narrow n f d a g e b out out work work 0 s
  refused_sent z = record {
    status_is = refused_early (bivariate_sent narrow n f d a g e b)
        (bivariate_room narrow n (bivariate_degree d a e b) (length out) (length work)) s
        told.is z;
    value_is = refl;
    out_is = replaced_refused s (tabulate (suc (bivariate_degree d a e b)) (bivariate_resultant_of n d a e b f g)) out z;
    work_is = left_refused s work z;
  }

  -- last is B
  module _ (z : s ≡ 0) {last t : ℕ} (room : RoomTold narrow n last (length out) (length work) t)
      (is : last ≡ bivariate_degree d a e b) where
    pub refused_room : (t ≡ 0 → ⊥) → BivariateAnswer narrow n f d a g e b out out work work 0 t
    refused_room y = record {
      status_is = passed_on (bivariate_sent narrow n f d a g e b)
          (bivariate_room narrow n (bivariate_degree d a e b) (length out) (length work)) s t
          told.is z (room_told room is);
      value_is = refl;
      out_is = replaced_refused t (tabulate (suc (bivariate_degree d a e b)) (bivariate_resultant_of n d a e b f g)) out y;
      work_is = left_refused t work y;
    }

    -- the values, the evaluated pair and the run's room fit: 7538 of 8192 words
    pub prepared : t ≡ 0 → Prepared n last f d a g e b out work
    prepared y =
        let p = accepted told z in
        let r = room_accepted room y in
        record {
          two = p.modulus;
          sizes = record {
            most_d = p.first.most_y;
            most_e = p.second.most_y;
            words_f = p.first.words;
            words_g = p.second.words;
            working = omega (arith, r.working);
          };
          degree = is;
          inside = r.out;
          apart = none_differences (omega (arith, p.modulus)) r.none;
        }

    pub done : (y : t ≡ 0) {out' work' : List ℕ} → Written (bivariate_resultant_of n d a e b f g) 0 (last + 1) out out'
        → work' ≡ replicate (length work) 0 → BivariateAnswer narrow n f d a g e b out out' work work' 0 0
    done y {out'} h k = record {
      status_is = passed_on (bivariate_sent narrow n f d a g e b)
          (bivariate_room narrow n (bivariate_degree d a e b) (length out) (length work)) s 0
          told.is z (sym y ∙ room_told room is);
      value_is = refl;
      out_is = written_front (bivariate_resultant_of n d a e b f g) (suc (bivariate_degree d a e b)) out out'
          (subst (λ (x : ℕ). suc x ≤ length out) is (room_accepted room y).out)
          (subst (λ (l : ℕ). Written (bivariate_resultant_of n d a e b f g) 0 l out out') (add-one last ∙ ap suc is) h);
      work_is = k;
    }

pub ruleset answers = (rules, few_d, few_a, few_e, few_b, refused_sent, refused_room, prepared, done)
