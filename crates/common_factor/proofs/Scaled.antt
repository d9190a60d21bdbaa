-- A polynomial is loaded into a wiped buffer and multiplied by the inverse of its leading word.
--
--   written_out    the words in the buffer
--   scaled         what is left in it
--   scalings       the rules
use mathlib.Core.Path.{◌≡◌, sym, ap, ◌∙◌}
use mathlib.Core.List.{List}
use mathlib.Core.Logic.{⊎_elim}
use Prim.Native.Nat.{ℕ, ◌+◌, ◌-◌, ◌*◌, ◌%◌, ◌<◌, ◌≤◌}
use native.Mathlib.Nat.{mod-eq_of_lt, zero-add}
use native.Mathlib.Omega.{arith}
use lib.ListN.{length, get_or, replicate, get_or-replicate, length-replicate, get_or-eq_default}
use borrow.Author.Rules.{rules}
use borrow.Rule.Slice.PartMut.{mid_of}
use Rattle.law_numbers.specs.Congruence.{c_refl, c_mul, c_mod}
use Rattle.law_numbers.specs.Divisors.{GcdCofactor}
use Rattle.law_numbers.specs.Units.{gcd_of_coprime, coprime_of_unit}
use Rattle.windows.specs.Window.{Moved, Loaded, mulBy}
use Rattle.windows.proofs.Parts.{mid_at}
use Rattle.windows.proofs.Lift.{mid_length}
use Rattle.windows.proofs.Leaf.{lt_or_le}
use Rattle.common_factor.specs.Searches.{MonicAsked, WrittenOut, MonicOf}

zero_at : (n k : ℕ) → get_or {A = ℕ} (replicate n 0) k 0 ≡ 0
zero_at n k = ⊎_elim (λ (p : k < n). get_or-replicate n k 0 0 p)
    (λ (p : n ≤ k). get_or-eq_default (replicate n 0) 0 {n = k} (omega (arith, length-replicate {A = ℕ} n 0))) (lt_or_le k n)

pub written_out : {m a t : ℕ} {w o o₁ o₂ : List ℕ} → MonicAsked m a t o w → Loaded m 0 (mid_of a (a + (t + 1) - a) w) o₁ o₂
    → o₁ ≡ replicate (length o) 0 → WrittenOut m a t w o o₂
written_out {m} {a} {t} {w} {o} {o₁} {o₂} q h e = record {
  same = h.same ∙ ap length e ∙ length-replicate (length o) 0;
  words = λ k l. ap (λ (x : ℕ). get_or o₂ x 0) (sym (zero-add k)) ∙ h.mid k (omega (arith, len))
      ∙ ap (λ (x : ℕ). x % m) (mid_at a z w k (omega arith));
  above = λ k l. h.high k (omega (arith, len)) ∙ ap (λ (x : List ℕ). get_or x k 0) e ∙ zero_at (length o) k;
}
  where
    z : ℕ
    z = a + (t + 1) - a

    len : length (mid_of a z w) ≡ t + 1
    len = mid_length a z w (omega (arith, q.inside)) ∙ omega arith

pub scaled : {m a t g i : ℕ} {w o o₁ o₂ : List ℕ} → MonicAsked m a t o w → WrittenOut m a t w o o₁ → GcdCofactor m (get_or w (a + t) 0) g i
    → Moved (mulBy m i) 0 0 (t + 1) o₁ o₂ → MonicOf m a t w o o₂
scaled {m} {a} {t} {g} {i} {w} {o} {o₁} {o₂} q h c v = record {
  same = v.same ∙ h.same;
  inverse = i;
  words = λ k l. word k (omega arith);
  lead = word t (omega arith) ∙ c.bezout ∙ ap (λ (x : ℕ). x % m) (gcd_of_coprime (coprime_of_unit q.unit) c.gcd)
      ∙ mod-eq_of_lt q.two;
  above = λ k l. v.high k (omega arith) ∙ h.above k l;
}
  where
    word : (k : ℕ) → k < t + 1 → get_or o₂ k 0 ≡ (i * get_or w (a + k) 0) % m
    word k l = ap (λ (x : ℕ). get_or o₂ x 0) (sym (zero-add k)) ∙ v.mid k l
        ∙ ap (λ (x : ℕ). (i * x) % m) (ap (λ (x : ℕ). get_or o₁ x 0) (zero-add k) ∙ h.words k (omega arith))
        ∙ (c_mul (c_refl {a = i}) (c_mod (get_or w (a + k) 0))).same

pub ruleset scalings = (rules, written_out, scaled)
