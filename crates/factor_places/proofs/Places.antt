-- The loops over the places, as the code goes: i is the place that is next, or the last that was taken in.
--
--   Sought k l i            no place of l before i has k, the invariant of `place_of`
--   Summed l s i            s is the sum of the words from i on, the invariant of `degree_sum`
--   Multiplied n l p i      p is the product modulo n of the words from i on, the invariant of `multiplied`
--   placing                 the rules
use mathlib.Core.Path.{◌≡◌, sym, ap, ◌∙◌}
use mathlib.Core.List.{List}
use Prim.Native.Nat.{ℕ, zero, suc, ◌+◌, ◌*◌, ◌-◌, ◌%◌, ◌≤◌, ◌<◌}
use native.Mathlib.Numerals.{add-one}
use native.Mathlib.Omega.{arith}
use borrow.Author.Rules.{rules}
use borrow.Author.Tests.{eq-eqb, ne_eqb}
use lib.ListN.{length, get_or, drop, drop_of_length-le}
use lib.Seq.{drop-cons}
use Rattle.factor_places.specs.Places.{first_place_of, sum, multiplied}

pub record Sought (k : ℕ) (l : List ℕ) (i : ℕ) : Type 0 where
  pub most : i ≤ 16
  pub so : first_place_of k l ≡ i + first_place_of k (drop i l)

module _ {k i : ℕ} {l : List ℕ} (s : Sought k l i) (e : length l ≡ 16) where
  pub found_here : i < 16 → get_or l i 0 ≡ k → i ≡ first_place_of k l
  unfolding first_place_of
  found_here h x = omega (arith, s.so, here)
    where
      here : first_place_of k (drop i l) ≡ 0
      here = rw (drop-cons l i 0 (omega arith), eq-eqb (get_or l i 0) k x)

  pub passed_over : {i' : ℕ} → i < 16 → (get_or l i 0 ≡ k → ⊥) → i' ≡ i + 1 → Sought k l i'
  unfolding first_place_of
  passed_over h n ei = rw ei (record { most = omega arith; so = omega (arith, s.so, next) })
    where
      next : first_place_of k (drop i l) ≡ suc (first_place_of k (drop (i + 1) l))
      next = rw (drop-cons l i 0 (omega arith), ne_eqb (get_or l i 0) k n, add-one i)

  pub none_found : 16 ≤ i → 16 ≡ first_place_of k l
  unfolding first_place_of
  none_found h = omega (arith, s.so, s.most, ap (first_place_of k) (drop_of_length-le l {i = i} (omega arith)))

before : (i : ℕ) → 0 < i → suc (i - 1) ≡ i
before i h = omega arith

pub record Summed (l : List ℕ) (s i : ℕ) : Type 0 where
  pub most : i ≤ 16
  pub so : s ≡ sum (drop i l)
  pub few : s ≤ (16 - i) * 4294967295

pub summed_none : (l : List ℕ) → length l ≡ 16 → Summed l 0 16
unfolding sum
summed_none l e = record { most = omega arith; so = sym (ap sum (drop_of_length-le l {i = 16} (omega arith))); few = omega arith }

module _ {l : List ℕ} {s i : ℕ} (p : Summed l s i) where
  pub summed_next : {s' i' : ℕ} (x : ℕ) → x ≡ get_or l (i - 1) 0 → x ≤ 4294967295 → length l ≡ 16 → 0 < i → s' ≡ s + x → i' ≡ i - 1
      → Summed l s' i'
  unfolding sum
  summed_next x ex few e h es ei =
      let z = ap sum (drop-cons l (i - 1) 0 (omega (arith, p.most)))
      ∙ ap (λ (j : ℕ). get_or l (i - 1) 0 + sum (drop j l)) (before i h) in
      rw (es, ei) (record { most = omega (arith, p.most); so = omega (arith, p.so, z); few = omega (arith, p.few, p.most) })

  pub summed_all : i ≤ 0 → s ≡ sum l
  summed_all h = let e : i ≡ 0 = omega arith in p.so ∙ ap (λ (j : ℕ). sum (drop j l)) e

pub record Multiplied (n : ℕ) (l : List ℕ) (p i : ℕ) : Type 0 where
  pub most : i ≤ 16
  pub so : p ≡ multiplied n (drop i l)

pub multiplied_none : (n : ℕ) (l : List ℕ) → length l ≡ 16 → Multiplied n l 1 16
unfolding multiplied
multiplied_none n l e =
    record { most = omega arith; so = sym (ap (multiplied n) (drop_of_length-le l {i = 16} (omega arith))) }

module _ {n : ℕ} {l : List ℕ} {p i : ℕ} (m : Multiplied n l p i) where
  pub multiplied_next : {p' i' : ℕ} → p' ≡ (get_or l (i - 1) 0 * p) % n → length l ≡ 16 → 0 < i → i' ≡ i - 1 → Multiplied n l p' i'
  unfolding multiplied
  multiplied_next ep e h ei =
      rw ei (record {
        most = omega (arith, m.most);
        so = ep
            ∙ ap (λ (x : ℕ). (get_or l (i - 1) 0 * x) % n) (m.so ∙ ap (λ (j : ℕ). multiplied n (drop j l)) (sym (before i h)))
            ∙ sym (ap (multiplied n) (drop-cons l (i - 1) 0 (omega (arith, m.most))));
      })

  pub multiplied_all : i ≤ 0 → p ≡ multiplied n l
  multiplied_all h = let e : i ≡ 0 = omega arith in m.so ∙ ap (λ (j : ℕ). multiplied n (drop j l)) e

pub ruleset placing = (
  rules,
  found_here,
  passed_over,
  none_found,
  summed_none,
  summed_next,
  summed_all,
  multiplied_none,
  multiplied_next,
  multiplied_all,
)
