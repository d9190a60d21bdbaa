-- A round of Euclid's algorithm: f of degree d at a, and k words left of g at b, modulo c.
--
--   last           no word of g is left: f divides both
--   step_asked     what the division asks
--   next_asked     what the next round asks
--   next_found     what divides g and the remainder divides f and g
--   less           fewer words are left
--   rounds         the rules
use mathlib.Core.Path.{◌≡◌, refl, sym, ap, subst, ◌∙◌}
use mathlib.Core.List.{List}
use mathlib.Core.Logic.{⊎_elim}
use Prim.Native.Nat.{ℕ, zero, ◌+◌, ◌-◌, ◌%◌, ◌<◌, ◌≤◌, ◌∣◌}
use native.Mathlib.Nat.{zero-mod, one-mul, dvd_trans}
use native.Mathlib.Omega.{arith}
use borrow.Author.Rules.{rules}
use lib.ListN.{get_or}
use Rattle.definitions.specs.Residues.{IsUnit}
use Rattle.definitions.specs.Polynomials.{coef}
use Rattle.law_numbers.specs.Congruence.{c_dvd, c_zero}
use Rattle.law_numbers.specs.Units.{unit_dvd}
use Rattle.modulus.specs.Values.{Known}
use Rattle.modulus.specs.declared.Modulus.{Modulus}
use Rattle.windows.specs.Window.{piece}
use Rattle.windows.proofs.Leaf.{piece_at, piece_over, piece_length, lt_or_le}
use Rattle.common_factor.specs.Common.{DividesModulo, OnlyZero}
use Rattle.common_factor.specs.CommonLaws.{only_zero_dvd, only_zero_cong, only_zero_flip, only_zero_rest, not_constant}
use Rattle.common_factor.specs.CommonLaws.{divides_constant, divides_zero, divides_cong, divides_rest, divided_dvd}
use Rattle.common_factor.specs.Searches.{Stripped, StepAsked, Stepped, EuclidAsked, CommonIn}
use Rattle.common_factor.specs.declared.Found.{Found}
use Rattle.common_factor.proofs.Steps.{unit_same}

-- a polynomial of degree 0 whose word is a unit
no_constant : (c : ℕ) → 2 ≤ c → (w : List ℕ) (a d : ℕ) (g : List ℕ) → IsUnit c (get_or w (a + d) 0) → OnlyZero c (piece w a (d + 1)) g
    → d ≡ 0 → ⊥
no_constant c l w a d g u z e =
    not_constant c l (piece w a (d + 1)) g
    (subst (IsUnit c) (ap (λ (x : ℕ). get_or w (a + x) 0) e ∙ sym (piece_at w a (d + 1) 0 (omega arith))) u)
    (λ k p. ap (λ (x : ℕ). x % c) (piece_over w a (d + 1) k (omega arith)) ∙ zero-mod c) z

-- the words that are left
pub shorter : (c : ℕ) (w : List ℕ) (b l k j : ℕ) → k ≤ l → j ≡ k → ((i : ℕ) → k ≤ i → c ∣ coef (piece w b l) i) → (i : ℕ)
    → coef (piece w b j) i % c ≡ coef (piece w b l) i % c
shorter c w b l k j h e z i = ⊎_elim
    (λ (p : i < k). ap (λ (x : ℕ). x % c) (piece_at w b j i (omega arith) ∙ sym (piece_at w b l i (omega arith))))
    (λ (p : k ≤ i). ap (λ (x : ℕ). x % c) (piece_over w b j i (omega arith)) ∙ sym (c_zero (z i p)).same) (lt_or_le i k)

-- what divides polynomials that agree with f and g modulo m, a divisor of m', divides f and g
pub common_cong : {m m' d d' : ℕ} {f g f' g' w : List ℕ} {h : Found} → CommonIn m d f g w h → m ∣ m' → d ≤ d'
    → ((i : ℕ) → coef f i % m ≡ coef f' i % m) → ((i : ℕ) → coef g i % m ≡ coef g' i % m) → CommonIn m' d' f' g' w h
common_cong {m} {h = h} x v n same_f same_g = record {
  known = x.known;
  divides = dvd_trans h.m.n x.divides v;
  two = x.two;
  one = x.one;
  few = omega (arith, x.few);
  inside = x.inside;
  unit = x.unit;
  first = divides_cong h.m.n (omega (arith, x.two)) _ _ _ _ (λ _. refl) (λ i. (c_dvd x.divides (record { same = same_f i })).same)
      x.first;
  second = divides_cong h.m.n (omega (arith, x.two)) _ _ _ _ (λ _. refl) (λ i. (c_dvd x.divides (record { same = same_g i })).same)
      x.second;
}

module _ {m a d b l : ℕ} {w : List ℕ} (q : EuclidAsked m a d b l w) {c k : ℕ} (s : Stripped m (piece w b l) c k) where
  pos : 1 ≤ c
  pos = omega (arith, s.two)

  few : k ≤ l
  few = subst (λ (x : ℕ). k ≤ x) (piece_length w b l q.second) s.few

  only : OnlyZero c (piece w a (d + 1)) (piece w b l)
  only = only_zero_dvd c m _ _ (omega (arith, q.two)) s.divides q.only

  unit : IsUnit c (get_or w (a + d) 0)
  unit = unit_dvd pos s.divides q.unit

  module _ (some : k ≡ 0 → ⊥) where
    top : k - 1 + 1 ≡ k
    top = omega arith

    near : k - 1 ≤ d
    near = omega (arith, few, q.near)

    shown : (i : ℕ) → coef (piece w b (k - 1 + 1)) i % c ≡ coef (piece w b l) i % c
    shown = shorter c w b l k (k - 1 + 1) few top s.zero

    only_short : OnlyZero c (piece w a (d + 1)) (piece w b (k - 1 + 1))
    only_short = only_zero_cong c pos _ _ _ _ (λ _. refl) (λ i. sym (shown i)) only

    lead : IsUnit c (get_or w (b + (k - 1)) 0)
    lead = subst (IsUnit c) (piece_at w b l (k - 1) (omega (arith, few))) (s.unit (omega arith))

    pub less : {t : ℕ} → l ≡ t → k - 1 < t
    less e = omega (arith, few)

    pub step_asked : StepAsked c a d b (k - 1) w
    step_asked = record {
      two = s.two;
      one = let n : (k - 1 ≡ 0 → ⊥) = no_constant c s.two w b (k - 1) _ lead (only_zero_flip c pos _ _ only_short) in omega arith;
      near = omega (arith, near);
      first = q.first;
      second = omega (arith, few, q.second);
      apart = record { ok = λ i j x y. q.apart.ok i j (omega (arith, few)) y };
      unit = lead;
    }

    at : (v : List ℕ) → coef (piece v b (k - 1 + 1)) (k - 1) ≡ get_or v (b + (k - 1)) 0
    at v = piece_at v b (k - 1 + 1) (k - 1) (omega arith)

    module _ {w' : List ℕ} (r : Stepped c a d b (k - 1) w w') where
      pub next_asked : EuclidAsked c b (k - 1) a (k - 1) w'
      next_asked = record {
        two = s.two;
        near = omega arith;
        first = omega (arith, few, q.second, r.same);
        second = omega (arith, near, q.first, r.same);
        apart = record { ok = λ i j x y e. q.apart.ok j i (omega (arith, few)) (omega (arith, near)) (sym e) };
        unit = unit_same c (get_or w (b + (k - 1)) 0) (get_or w' (b + (k - 1)) 0) pos (ap (λ (x : ℕ). x % c) (sym (at w'))
            ∙ r.divisor (k - 1) ∙ ap (λ (x : ℕ). x % c) (at w)) lead;
        only = only_zero_cong c pos _ _ _ _ (λ i. sym (r.divisor i)) (λ _. refl)
            (only_zero_rest c pos _ _ r.quotient _ r.divided only_short);
      }

      pub next_found : {w'' : List ℕ} {h : Found} → CommonIn c (k - 1) (piece w' b (k - 1 + 1)) (piece w' a (k - 1)) w'' h
          → CommonIn m d (piece w a (d + 1)) (piece w b l) w'' h
      next_found {w''} {h} x = record {
        known = x.known;
        divides = dvd_trans h.m.n x.divides s.divides;
        two = x.two;
        one = x.one;
        few = omega (arith, near, x.few);
        inside = x.inside;
        unit = x.unit;
        first = divides_rest h.m.n some_m _ _ _ r.quotient _ (divided_dvd h.m.n c _ _ r.quotient _ x.divides r.divided)
            divisor x.second;
        second = divides_cong h.m.n some_m _ _ _ _ (λ _. refl) (λ i. (c_dvd x.divides (record { same = shown i })).same) divisor;
      }
        where
          some_m : 1 ≤ h.m.n
          some_m = omega (arith, x.two)

          divisor : DividesModulo h.m.n (piece w'' h.at (h.degree + 1)) (piece w b (k - 1 + 1))
          divisor =
              divides_cong h.m.n some_m _ _ _ _ (λ _. refl) (λ i. (c_dvd x.divides (record { same = r.divisor i })).same) x.first

pub last : {m a d b l k : ℕ} {w : List ℕ} {x : Modulus} → EuclidAsked m a d b l w → Known x → Stripped m (piece w b l) x.n k → k ≡ 0
    → CommonIn m d (piece w a (d + 1)) (piece w b l) w (record { m = x; at = a; degree = d })
last {m} {a} {d} {b} {l} {k} {w} {x} q y s e = record {
  known = y;
  divides = s.divides;
  two = s.two;
  one = let n : (d ≡ 0 → ⊥) = no_constant x.n s.two w a d (piece w b l) (unit q s) (only q s) in omega arith;
  few = omega arith;
  inside = q.first;
  unit = unit q s;
  first = divides_constant x.n 1 _ _ (λ j. ap (λ (z : ℕ). z % x.n) (sym (one-mul (coef (piece w a (d + 1)) j))));
  second = divides_zero x.n _ _ (λ j. (c_zero (s.zero j (omega arith))).same);
}

pub ruleset rounds = (rules, last, less, step_asked, next_asked, next_found)
