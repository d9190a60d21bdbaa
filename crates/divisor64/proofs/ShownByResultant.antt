-- What the resultant shows of D, and what a run asks for a factor of the modulus.
--
--   shown                         what the resultant shows
--   loaded                        two polynomials in the window
--   first_factor, second_factor   what the run asks, for a factor of the modulus
--   asked_by, wide_half_asked     the same for the record of the modulus, and what a half asks
--   ways                          the rules
use mathlib.Core.Path.{◌≡◌, refl, subst, ◌∙◌}
use mathlib.Core.Bool.{Bool, true, false}
use mathlib.Core.List.{List}
use Prim.Native.Nat.{ℕ, zero, suc, pred, ◌+◌, ◌/◌, ◌≤◌, ◌<◌}
use native.Mathlib.Omega.{arith}
use native.Mathlib.Nat.{one-dvd}
use lib.Dec.{eqb}
use lib.ListN.{length}
use borrow.Author.Rules.{rules}
use borrow.Author.Tests.{eqb-true}
use Rattle.definitions.specs.Resultants.{resultant, Reached, Reduced}
use Rattle.law_numbers.specs.Divisors.{IsGcd}
use Rattle.law_numbers.specs.Units.{unit_of_coprime, coprime_of_gcd, inverse_times}
use Rattle.law_polynomials.specs.ReachedLaws.{resultant_reached, reached_same, reached_multiple, reduced_from}
use Rattle.windows.specs.Window.{Scratch, Loaded}
use Rattle.window_factor.specs.Factors.{SplitOf}
use Rattle.reduced_attempt.specs.ReducedAttempts.{PairLoaded, CommonContent}
use Rattle.reduced_attempt.proofs.Scalings.{pair_plain}
use Rattle.divisor.specs.Sizes.{DivisorLengthsAsked}
use Rattle.divisor.specs.DivisorAttempts.{HalfAsked}
use Rattle.divisor.proofs.Halves.{split_first, split_second, half_asked}
use Rattle.divisor64.specs.CoprimeAttempted.{DivisorAsked, CoprimeAttempted}

module _ {n : ℕ} {f g w : List ℕ} (a : DivisorAsked n f g w) where
  -- a unit that is reached: D is 1
  unit_reached : (c : ℕ) → IsGcd n c 1 → Reached n f g c → Reduced n f g 1
  unit_reached c h r =
      let positive : 1 ≤ n = omega (arith, a.two) in
      let u = unit_of_coprime {a = c} positive (coprime_of_gcd h) in
      reduced_from n 1 f g positive (one-dvd n) (omega arith) positive
      (reached_same (inverse_times u).same (reached_multiple n positive f g c u.inverse r)) (λ x y. one-dvd x)

  reached : 3 ≤ length f + length g → Reached n f g (resultant n f g)
  reached l = go n a.two
    where
      some : (x y : ℕ) → 3 ≤ x + y → 1 ≤ x → 1 ≤ y → 1 ≤ pred x + pred y
      some x y h p q = omega arith

      go : (n : ℕ) → 2 ≤ n → Reached n f g (resultant n f g)
      go zero h = absurd (omega arith)
      go (suc m) h = resultant_reached m f g (some (length f) (length g) l a.least_f a.least_g)

  pub shown : {r x : ℕ} (b : Bool) → r ≡ resultant n f g → IsGcd n r x → 3 ≤ length f + length g → b ≡ eqb x 1 → CoprimeAttempted n f g b
  shown {r} {x} true e h l i =
      unit_reached (resultant n f g) (subst (λ (c : ℕ). IsGcd n c 1) e (subst (IsGcd n r) (eqb-true x 1 (is i)) h)) (reached l)
    where
      is : true ≡ eqb x 1 → eqb x 1 ≡ true
      is i = rw i refl
  shown false e h l i = tt

  asked_of : {w' : List ℕ} (p : ℕ) → length w' ≡ length w → 2 ≤ p → p < n → DivisorAsked p f g w'
  asked_of p same two less = record {
    two = two;
    bounded = omega (arith, a.bounded);
    least_f = a.least_f;
    most_f = a.most_f;
    least_g = a.least_g;
    most_g = a.most_g;
    working = omega (arith, a.working);
  }

  -- a factor of the modulus, after runs that lose the working words
  module _ {p q : ℕ} (s : SplitOf n p q) {w₁ : List ℕ} (h : Scratch w w₁) where
    pub first_factor : DivisorAsked p f g w₁
    first_factor = asked_of p h.same s.above₁ (split_first s n refl)

    pub second_factor : {w₂ : List ℕ} → Scratch w₁ w₂ → DivisorAsked q f g w₂
    second_factor i = asked_of q (i.same ∙ h.same) s.above₂ (split_second s n refl)

-- of the record of n
pub asked_by : {n k : ℕ} {f g w : List ℕ} → DivisorAsked n f g w → k ≡ n → DivisorAsked k f g w
asked_by a is = rw is a

pub wide_half_asked : {n v c : ℕ} {f g w w₁ : List ℕ} → CommonContent n f g c → (c ≡ n → ⊥) → v ≡ n / c → DivisorAsked n f g w
    → Scratch w w₁ → HalfAsked n v c f g w₁
wide_half_asked {f = f} {g = g} {w = w} cm proper is a h = half_asked cm proper is a.two lengths h
  where
    lengths : DivisorLengthsAsked f g w
    lengths = record {
      least_f = a.least_f;
      most_f = a.most_f;
      least_g = a.least_g;
      most_g = a.most_g;
      working = omega (arith, a.working);
    }

pub loaded : {n j : ℕ} {f g w w₁ w₂ : List ℕ} → 2 ≤ n → length f ≤ j → Loaded n 0 f w w₁ → Loaded n j g w₁ w₂ → PairLoaded n 1 j f g w w₂
loaded {n} {j} {f} {g} two l = pair_plain n j f g (omega arith) l

pub ruleset ways = (rules, loaded, shown)
