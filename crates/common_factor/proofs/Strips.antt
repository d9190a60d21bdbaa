-- The loop that drops leading words: modulo c, a divisor of m, the words from place l on vanish. The record of c is made after it.
--
--   Left                      what holds at each round
--   left_none, left_step      before the first round, and after one more
--   left_unit                 a leading word that is a unit
--   stripped_again            the same of the record of c
--   strips                    the rules
use mathlib.Core.Path.{◌≡◌, sym, ap, subst, ◌∙◌}
use mathlib.Core.List.{List}
use mathlib.Core.Logic.{⊎_elim}
use Prim.Native.Nat.{ℕ, zero, ◌+◌, ◌-◌, ◌<◌, ◌≤◌, ◌∣◌}
use native.Mathlib.Nat.{dvd_trans, dvd-zero, dvd_refl, pos_of_dvd_of_pos}
use native.Mathlib.Omega.{arith}
use borrow.Author.Rules.{rules}
use lib.ListN.{length, get_or}
use Rattle.definitions.specs.Polynomials.{coef}
use Rattle.law_numbers.specs.Divisors.{IsGcd}
use Rattle.law_numbers.specs.Units.{coprime_of_gcd, unit_of_coprime}
use Rattle.windows.specs.Window.{piece}
use Rattle.windows.proofs.Leaf.{piece_at, piece_over, piece_length, lt_or_le}
use Rattle.common_factor.specs.Searches.{Stripped}

pub record Left (m : ℕ) (w : List ℕ) (a len c l : ℕ) : Type 0 where
  pub divides : c ∣ m
  pub two : 2 ≤ c
  pub few : l ≤ len
  pub zero : (k : ℕ) → l ≤ k → c ∣ coef (piece w a len) k

pub left_none : {m : ℕ} {w : List ℕ} {a len : ℕ} → 2 ≤ m → Left m w a len m len
left_none {m} {w} {a} {len} h = record {
  divides = dvd_refl m;
  two = h;
  few = omega arith;
  zero = λ k l. subst (λ (x : ℕ). m ∣ x) (sym (piece_over w a len k l)) (dvd-zero m);
}

above_one : (g c : ℕ) → g ∣ c → 2 ≤ c → (g ≡ 1 → ⊥) → 2 ≤ g
above_one g c d l n = let p : 0 < g = pos_of_dvd_of_pos d (omega arith) in omega arith

pub left_step : {m a len c l g : ℕ} {w : List ℕ} → Left m w a len c l → 0 < l → IsGcd (get_or w (a + (l - 1)) 0) c g → (g ≡ 1 → ⊥)
    → Left m w a len g (l - 1)
left_step {m} {a} {len} {c} {l} {g} {w} h p d n = record {
  divides = dvd_trans g d.right h.divides;
  two = above_one g c d.right h.two n;
  few = omega (arith, h.few);
  zero = λ k b. ⊎_elim (λ (q : k < l). at k (omega arith)) (λ (q : l ≤ k). dvd_trans g d.right (h.zero k q)) (lt_or_le k l);
}
  where
    at : (k : ℕ) → k ≡ l - 1 → g ∣ coef (piece w a len) k
    at k e =
        subst (λ (x : ℕ). g ∣ x) (ap (λ (x : ℕ). get_or w (a + x) 0) (sym e) ∙ sym (piece_at w a len k (omega (arith, h.few)))) d.left

pub left_unit : {m a len c l l' g : ℕ} {w : List ℕ} → Left m w a len c l → 0 < l → a + len ≤ length w
    → IsGcd (get_or w (a + (l - 1)) 0) c g → g ≤ 1 → l' ≡ l → Stripped m (piece w a len) c l'
left_unit {m} {a} {len} {c} {l} {l'} {g} {w} h p b d few el = rw el (record {
  divides = h.divides;
  two = h.two;
  few = subst (λ (x : ℕ). l ≤ x) (sym (piece_length w a len b)) h.few;
  zero = h.zero;
  unit = λ _. unit_of_coprime (omega (arith, h.two)) (coprime_of_gcd (record {
    left = subst (λ (x : ℕ). x ∣ c) e d.right;
    right = subst (λ (x : ℕ). x ∣ coef (piece w a len) (l - 1)) e (subst (λ (x : ℕ). g ∣ x) (sym word) d.left);
    most = λ k x y. subst (λ (z : ℕ). k ∣ z) e (d.most k (subst (λ (z : ℕ). k ∣ z) word y) x);
  }));
})
  where
    e : g ≡ 1
    e = let p : 0 < g = pos_of_dvd_of_pos d.right (omega (arith, h.two)) in omega arith

    word : coef (piece w a len) (l - 1) ≡ get_or w (a + (l - 1)) 0
    word = piece_at w a len (l - 1) (omega (arith, h.few))

pub stripped_again : {m c c' l : ℕ} {f : List ℕ} → Stripped m f c l → c' ≡ c → Stripped m f c' l
stripped_again {m} {c} {c'} {l} {f} s e = subst (λ (x : ℕ). Stripped m f x l) (sym e) s

pub ruleset strips = (rules, left_none, left_step, stripped_again)
