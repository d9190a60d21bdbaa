-- The service's promise at each place where it returns.
--
--   refused_pair, later_told     the status, from the tests in their order
--   ground_asked                 what the search for a ground asks
--   holds_reason, wiped          the lent words after an answer
--   refused, asked, done         a refusal, what is known once none applies, and an answer
--   statuses, serving, returning     the rules
use mathlib.Core.Path.{◌≡◌, refl, sym, ap, subst, ◌∙◌}
use mathlib.Core.List.{List, [], ◌∷◌, ◌++◌}
use Prim.Native.Nat.{ℕ, zero, suc, ◌∣◌}
use native.Mathlib.Nat.{dvd_trans}
use native.Mathlib.Omega.{arith}
use lib.ListN.{length, take, replicate}
use lib.Seq.{length_front, length-take-le, take_at, drop_at}
use borrow.Author.Rules.{rules}
use borrow.Rule.Slice.PartMut.{post_of}
use Rattle.definitions.specs.Resultants.{Reduced}
use Rattle.windows.specs.Window.{Scratch}
use Rattle.refusals.specs.Refusals.{narrow, Tested, short, first_refusal, refusals_of_pair}
use Rattle.refusals.specs.Conditions.{status_zero}
use Rattle.refusals.proofs.Statuses.{refused_early, passed_on, left_refused}
use Rattle.common_factor.specs.CommonLaws.{only_zero_of_reduced}
use Rattle.why_service.specs.Asked.{WhyAsked, GroundAsked}
use Rattle.why_service.specs.WhyService.{why_refusals, why_status, why_conditions, why_listed}
use Rattle.why_service.specs.WhyService.{NamedDivisor, GroundHolds, HoldsReason, WhyLeft, WhyAnswer}

left_alone : (s n : ℕ) (f g w : List ℕ) → (s ≡ 0 → ⊥) → WhyLeft s n f g w w 0 0 0
left_alone zero n f g w z = absurd (z refl)
left_alone (suc s) n f g w z = record { no_ground = refl; no_modulus = refl; no_degree = refl; kept = refl }

-- a divisor of D is one of n
named_up : {n D m : ℕ} → D ∣ n → NamedDivisor D D m → NamedDivisor n D m
named_up {n} {D} {m} h x = record { divides_n = dvd_trans m x.divides_D h; above = x.above; divides_D = x.divides_D }

ground_up : (k n D : ℕ) (f g h : List ℕ) (m t : ℕ) → D ∣ n → GroundHolds k D D f g h m t → GroundHolds k n D f g h m t
ground_up zero n D f g h m t d x = x
ground_up (suc zero) n D f g h m t d x = record {
  modulus = named_up d x.modulus;
  first = x.first;
  second = x.second;
  zeros = x.zeros;
  no_degree = x.no_degree;
}
ground_up (suc (suc zero)) n D f g h m t d x = record {
  modulus = named_up d x.modulus;
  some = x.some;
  residues = x.residues;
  monic = x.monic;
  first = x.first;
  second = x.second;
}
ground_up (suc (suc (suc k))) n D f g h m t d x = absurd x

-- ---- the status

-- the refusals 6 and 7
abbrev later : ℕ → ℕ → List Tested
later lw l = (6, short lw 49) ∷ (7, short l 8192) ∷ []

module _ (n : ℕ) (f g : List ℕ) (lw l s : ℕ) (e : s ≡ first_refusal (refusals_of_pair narrow n f g)) where
  pub refused_pair : (s ≡ 0 → ⊥) → s ≡ why_status narrow n f g lw l
  refused_pair z = refused_early (refusals_of_pair narrow n f g) (later lw l) s e z

  pub later_told : {t : ℕ} → s ≡ 0 → t ≡ first_refusal (later lw l) → t ≡ why_status narrow n f g lw l
  later_told {t} z h = passed_on (refusals_of_pair narrow n f g) (later lw l) s t e z h

pub ruleset statuses = (rules, refused_pair)

-- ---- the answer

module _ {n : ℕ} {f g w work : List ℕ} (a : WhyAsked n f g w work) {D : ℕ} (r : Reduced n f g D) where
  pub ground_asked : {x work₁ : List ℕ} → Scratch work work₁ → x ≡ take 49 w → GroundAsked D f g x work₁
  ground_asked c ex = rw ex (record {
    least = r.least;
    words = length-take-le 49 w a.words;
    few_f = a.few_f;
    few_g = a.few_g;
    room = omega (arith, a.room, c.same);
    only = only_zero_of_reduced n D f g (omega (arith, a.modulus)) r;
  })

  pub holds_reason : {k m t : ℕ} {w' : List ℕ} (x : List ℕ) → GroundHolds k D D f g x m t → length x ≡ length (take 49 w)
      → w' ≡ x ++ post_of 0 49 w → HoldsReason n f g w w' k m t
  holds_reason {k} {m} {t} x gr lx ew = rw ew (record {
    D = D;
    reduced = r;
    same = length_front w x 49 lx;
    beyond = drop_at x (post_of 0 49 w) 49 is;
    holds = ground_up k n D f g _ m t r.divides (subst (λ (o : List ℕ). GroundHolds k D D f g o m t)
        (sym (take_at x (post_of 0 49 w) 49 is)) gr);
  })
    where
      is : length x ≡ 49
      is = lx ∙ length-take-le 49 w a.words

pub wiped : {w w₁ w₂ w₃ : List ℕ} → Scratch w w₁ → Scratch w₁ w₂ → w₃ ≡ replicate (length w₂) 0 → w₃ ≡ replicate (length w) 0
wiped s t e = e ∙ ap (λ (l : ℕ). replicate l 0) (t.same ∙ s.same)

module _ {n : ℕ} {f g w work : List ℕ} (s : ℕ) (e : s ≡ why_status narrow n f g (length w) (length work)) where
  pub refused : (s ≡ 0 → ⊥) → WhyAnswer narrow n f g w w work work 0 0 0 s
  refused z = record { status_is = e; result = left_alone s n f g w z; work_is = left_refused s work z }

  module _ (z : s ≡ 0) where
    pub asked : WhyAsked n f g w work
    asked =
        let p = (status_zero (why_refusals narrow n f g (length w) (length work)) (why_conditions narrow n f g (length w) (length work))
        (why_listed narrow n f g (length w) (length work))).0 (sym e ∙ z) in
        record {
          modulus = p.0.least;
          some_f = p.1.0.some;
          few_f = p.1.0.few;
          some_g = p.1.1.0.some;
          few_g = p.1.1.0.few;
          words = p.1.1.1.1.1.0;
          room = p.1.1.1.1.1.1.0;
        }

    pub done : {k m t y : ℕ} {w' work' : List ℕ} → HoldsReason n f g w w' k m t → y ≡ 0 → work' ≡ replicate (length work) 0
        → WhyAnswer narrow n f g w w' work work' k m t y
    done {k} {m} {t} {y} {w'} {work'} h ey ew =
        subst (λ (i : ℕ). WhyAnswer narrow n f g w w' work work' k m t i) (sym ey) (record {
          status_is = sym z ∙ e;
          result = h;
          work_is = ew;
        })

pub ruleset serving = (rules, ground_asked, holds_reason, wiped)

pub ruleset returning = (rules, refused, asked, done)
