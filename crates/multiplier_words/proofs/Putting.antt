-- The loop that writes a multiple of the words of a window, for words of any width: each rule takes the facts as the code hands them over.
--
--   Putting     j words are written, and zeros stand above
--   puts        the rules
use mathlib.Core.Path.{◌≡◌, sym, ap, subst, ◌∙◌}
use mathlib.Core.List.{List}
use mathlib.Core.Logic.{⊎_elim}
use Prim.Native.Nat.{ℕ, ◌+◌, ◌-◌, ◌*◌, ◌%◌, ◌≤◌, ◌<◌}
use native.Mathlib.Omega.{arith}
use native.Mathlib.Nat.{mul-zero, mul_comm, zero-mod}
use lib.ListN.{length, get_or, set, replicate, length-set, length-replicate}
use lib.Seq.{get_or-set_same, get_or-set_other}
use borrow.Author.Rules.{rules}
use Rattle.definitions.specs.Polynomials.{coef}
use Rattle.law_numbers.specs.Congruence.{c_refl, c_eq, c_trans, c_mod, c_mul}
use Rattle.windows.specs.Window.{piece}
use Rattle.windows.proofs.Leaf.{lt_or_le, piece_at, piece_over}
use Rattle.modulus.specs.declared.Modulus.{Modulus}
use Rattle.modulus.specs.Values.{value, values}
use Rattle.euclid_steps.specs.Plain.{Sound, known_sound, plain_sound, values_at}
use Rattle.euclid_steps.specs.declared.Ending.{Ending}
use Rattle.multiplier_words.specs.Words.{Put, Handed}

pub record Putting (n c at len : ℕ) (w u₀ u : List ℕ) (j : ℕ) : Type 0 where
  pub most : j ≤ len
  pub room : len ≤ length u₀
  pub same : length u ≡ length u₀
  pub low : (k : ℕ) → k < j → get_or u k 0 ≡ (c * get_or w (at + k) 0) % n
  pub high : (k : ℕ) → j ≤ k → get_or u k 0 ≡ 0

pub putting_next : {n c at len j j' : ℕ} {w u₀ u u' : List ℕ} {x : ℕ} → Putting n c at len w u₀ u j → j < len
    → x ≡ (c * get_or w (at + j) 0) % n → u' ≡ set u j x → j' ≡ j + 1 → Putting n c at len w u₀ u' j'
putting_next {n} {c} {at} {len} {j} {j'} {w} {u₀} {u} {u'} {x} p l e eu ej = rw (eu, ej) (record {
  most = omega arith;
  room = p.room;
  same = length-set u j x ∙ p.same;
  low = λ k h. ⊎_elim (λ q. get_or-set_other u j k x 0 (omega arith) ∙ p.low k q)
      (λ q. let i : k ≡ j = omega arith in
      subst (λ (y : ℕ). get_or (set u j x) y 0 ≡ (c * get_or w (at + y) 0) % n) (sym i)
      (get_or-set_same u j x 0 (omega (arith, p.same, p.room)) ∙ e))
      (lt_or_le k j);
  high = λ k h. get_or-set_other u j k x 0 (omega arith) ∙ p.high k (omega arith);
})

-- what a word stands for, times c
pub putting_times : {m : Modulus} {n c at len j j' : ℕ} (w : List ℕ) {u₀ u u' : List ℕ} {x : ℕ} → Sound m
    → Putting n c at len (values m w) u₀ u j → j < len → x ≡ (value m (get_or w (at + j) 0) * c) % n → u' ≡ set u j x → j' ≡ j + 1
    → Putting n c at len (values m w) u₀ u' j'
putting_times {m} {n} {c} {at} {len} {j} {j'} w k p l e eu ej = putting_next p l
    (e ∙ ap (λ (y : ℕ). y % n) (mul_comm (value m (get_or w (at + j) 0)) c ∙ ap (λ (y : ℕ). c * y) (sym (values_at m k w (at + j))))) eu ej

pub putting_end : {n c at len j : ℕ} {w u₀ u : List ℕ} (x : List ℕ) → u₀ ≡ replicate (length x) 0 → Putting n c at len w u₀ u j → len ≤ j
    → Put n c at len w x u
putting_end {n} {c} {at} {len} {j} {w} {u₀} {u} x h p e = record {
  same = p.same ∙ ap length h ∙ length-replicate (length x) 0;
  words = λ k. ⊎_elim (λ l. p.low k (omega (arith, p.most)) ∙ ap (λ (y : ℕ). (c * y) % n) (sym (piece_at w at len k l)))
      (λ l. p.high k (omega (arith, p.most)) ∙ sym (ap (λ (x : ℕ). (c * x) % n) (piece_over w at len k l)
      ∙ ap (λ (x : ℕ). x % n) (mul-zero c) ∙ zero-mod n))
      (lt_or_le k len);
}

-- ---- both multipliers

put_times : {n y at len : ℕ} {w v v' : List ℕ} (z K : ℕ) → y ≡ (K * z) % n → Put n y at len w v v' → Put n (z * K) at len w v v'
put_times {n} {y} {at} {len} {w} z K e p = record {
  same = p.same;
  words = λ k. p.words k
      ∙ (c_mul (c_trans (c_eq e) (c_trans (c_mod (K * z)) (c_eq (mul_comm K z)))) (c_refl {a = coef (piece w at len) k})).same;
}

pub handed_out : {m : Modulus} {r : Ending ℕ} {y z a b : ℕ} {w u v u' v' : List ℕ} → (y < m.n) × (y ≡ (value m r.k * z) % m.n)
    → Put m.n z r.u a (values m w) u u' → Put m.n y r.v b (values m w) v v' → Handed m r z a b w u v u' v'
handed_out {m} {r} {y} {z} e p q = record { first = p; second = put_times z (value m r.k) e.1 q }

pub ruleset puts = (
  rules,
  known_sound,
  plain_sound,
  putting_times,
  putting_end,
  handed_out,
)
