-- The start of the search: of f, p words at a, the first k are left modulo c, and of g, r words at b, the first l.
--
--   Ready               what is known then, l at most k
--   asked, found        what Euclid's algorithm asks, and what its answer says of f and g
--   ready_first, ready_second, both_zero    f longer, g longer, and nothing left of both
--   flipped             the two exchanged
--   starts              the rules
use mathlib.Core.Path.{◌≡◌, refl, sym, subst}
use mathlib.Core.List.{List}
use Prim.Native.Nat.{ℕ, ◌+◌, ◌-◌, ◌%◌, ◌<◌, ◌≤◌, ◌∣◌}
use native.Mathlib.Nat.{dvd_trans}
use native.Mathlib.Omega.{arith}
use borrow.Author.Rules.{rules}
use lib.ListN.{length}
use Rattle.definitions.specs.Residues.{IsUnit}
use Rattle.definitions.specs.Polynomials.{coef}
use Rattle.law_numbers.specs.Units.{unit_dvd}
use Rattle.windows.specs.Window.{piece, Apart}
use Rattle.windows.proofs.Leaf.{piece_at, piece_length}
use Rattle.common_factor.specs.Common.{OnlyZero}
use Rattle.common_factor.specs.CommonLaws.{only_zero_dvd, only_zero_cong, only_zero_flip}
use Rattle.common_factor.specs.Searches.{Stripped, EuclidAsked, CommonIn, StartAsked, ZeroIn, GroundIn}
use Rattle.common_factor.specs.declared.Found.{Found}
use Rattle.common_factor.specs.declared.Ground.TheVariants.{Common}
use Rattle.common_factor.proofs.EuclidRounds.{shorter, common_cong}

record Ready (m c a p k b r l : ℕ) (w : List ℕ) : Type 0 where
  pub two : 2 ≤ c
  pub divides : c ∣ m
  pub inside_a : a + p ≤ length w
  pub inside_b : b + r ≤ length w
  pub apart : Apart b r a p
  pub few_a : k ≤ p
  pub few_b : l ≤ r
  pub zero_a : (i : ℕ) → k ≤ i → c ∣ coef (piece w a p) i
  pub zero_b : (i : ℕ) → l ≤ i → c ∣ coef (piece w b r) i
  pub some : 1 ≤ k
  pub near : l ≤ k
  pub most : p ≤ 49
  pub unit : IsUnit c (coef (piece w a p) (k - 1))
  pub only : OnlyZero c (piece w a p) (piece w b r)

module _ {m c a p k b r l : ℕ} {w : List ℕ} (y : Ready m c a p k b r l w) where
  top : k - 1 + 1 ≡ k
  top = let s = y.some in omega arith

  pos : 1 ≤ c
  pos = let s = y.two in omega arith

  left_a : (i : ℕ) → coef (piece w a (k - 1 + 1)) i % c ≡ coef (piece w a p) i % c
  left_a = shorter c w a p k (k - 1 + 1) y.few_a top y.zero_a

  left_b : (i : ℕ) → coef (piece w b l) i % c ≡ coef (piece w b r) i % c
  left_b = shorter c w b r l l y.few_b refl y.zero_b

  asked : EuclidAsked c a (k - 1) b l w
  asked = record {
    two = y.two;
    near = omega (arith, top, y.near);
    first = omega (arith, y.some, y.few_a, y.inside_a);
    second = omega (arith, y.few_b, y.inside_b);
    apart = record { ok = λ i j u v. y.apart.ok i j (omega (arith, y.few_b)) (omega (arith, top, y.few_a)) };
    unit = subst (IsUnit c) (piece_at w a p (k - 1) (omega (arith, y.some, y.few_a))) y.unit;
    only = only_zero_cong c pos _ _ _ _ (λ i. sym (left_a i)) (λ i. sym (left_b i)) y.only;
  }

  found : {w' : List ℕ} {h : Found} → CommonIn c (k - 1) (piece w a (k - 1 + 1)) (piece w b l) w' h
      → CommonIn m 48 (piece w a p) (piece w b r) w' h
  found x = common_cong x y.divides (omega (arith, y.few_a, y.most)) left_a left_b

flipped : {m d : ℕ} {f g w : List ℕ} {h : Found} → CommonIn m d f g w h → CommonIn m d g f w h
flipped x = record {
  known = x.known;
  divides = x.divides;
  two = x.two;
  one = x.one;
  few = x.few;
  inside = x.inside;
  unit = x.unit;
  first = x.second;
  second = x.first;
}

module _ {m x y : ℕ} {w : List ℕ} (q : StartAsked m x y w) {c₁ k c l : ℕ} (s : Stripped m (piece w 0 x) c₁ k)
    (t : Stripped c₁ (piece w x y) c l) where
  few_k : k ≤ x
  few_k = subst (λ (z : ℕ). k ≤ z) (piece_length w 0 x (omega (arith, q.room))) s.few

  few_l : l ≤ y
  few_l = subst (λ (z : ℕ). l ≤ z) (piece_length w x y q.room) t.few

  divides : c ∣ m
  divides = dvd_trans c t.divides s.divides

  zero_k : (i : ℕ) → k ≤ i → c ∣ coef (piece w 0 x) i
  zero_k i h = dvd_trans c t.divides (s.zero i h)

  only : OnlyZero c (piece w 0 x) (piece w x y)
  only = only_zero_dvd c m _ _ (omega (arith, q.two)) divides q.only

  ready_first : (l ≤ k) → (k ≡ 0 → ⊥) → Ready m c 0 x k x y l w
  ready_first n z = record {
    two = t.two;
    divides = divides;
    inside_a = omega (arith, q.room);
    inside_b = q.room;
    apart = record { ok = λ i j u v e. omega arith };
    few_a = few_k;
    few_b = few_l;
    zero_a = zero_k;
    zero_b = t.zero;
    some = omega arith;
    near = omega arith;
    most = q.few_x;
    unit = unit_dvd (omega (arith, t.two)) t.divides (s.unit (omega arith));
    only = only;
  }

  ready_second : k < l → Ready m c x y l 0 x k w
  ready_second n = record {
    two = t.two;
    divides = divides;
    inside_a = q.room;
    inside_b = omega (arith, q.room);
    apart = record { ok = λ i j u v e. omega arith };
    few_a = few_l;
    few_b = few_k;
    zero_a = t.zero;
    zero_b = zero_k;
    some = omega arith;
    near = omega arith;
    most = q.few_y;
    unit = t.unit (omega arith);
    only = only_zero_flip c (omega (arith, t.two)) _ _ only;
  }

  pub asked_first : (l ≤ k) → (k ≡ 0 → ⊥) → EuclidAsked c 0 (k - 1) x l w
  asked_first n z = asked (ready_first n z)

  pub found_first : (l ≤ k) → (k ≡ 0 → ⊥) → {w' : List ℕ} {h : Found} → CommonIn c (k - 1) (piece w 0 (k - 1 + 1)) (piece w x l) w' h
      → GroundIn m (piece w 0 x) (piece w x y) w' (Common h)
  found_first n z = found (ready_first n z)

  pub asked_second : k < l → EuclidAsked c x (l - 1) 0 k w
  asked_second n = asked (ready_second n)

  pub found_second : k < l → {w' : List ℕ} {h : Found} → CommonIn c (l - 1) (piece w x (l - 1 + 1)) (piece w 0 k) w' h
      → GroundIn m (piece w 0 x) (piece w x y) w' (Common h)
  found_second n z = flipped (found (ready_second n) z)

  pub both_zero : l ≤ k → k ≡ 0 → ZeroIn m (piece w 0 x) (piece w x y) c
  both_zero n z = record {
    divides = divides;
    two = t.two;
    first = record { at = λ i. zero_k i (omega arith) };
    second = record { at = λ i. t.zero i (omega arith) };
  }

pub ruleset starts = (rules, asked_first, asked_second, found_first, found_second, both_zero)
