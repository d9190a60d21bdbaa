-- An array written from the front, element by element.
--
--   ArrayWritten d P s k x    x has s elements, and the first k have the property P of their places; d stands beyond the end
--   array_none                before the first
--   array_next                one element more
use mathlib.Core.Path.{◌≡◌, sym, ◌∙◌, subst}
use mathlib.Core.List.{List}
use Prim.Native.Nat.{ℕ, ◌+◌, ◌≤◌, ◌<◌}
use native.Mathlib.Decide.{ℕ_discrete}
use native.Mathlib.Omega.{arith}
use lib.ListN.{length, get_or, set, length-set}
use lib.Seq.{get_or-set_same, get_or-set_other}

pub record ArrayWritten {A : Type 0} (d : A) (P : ℕ → A → Type 0) (s k : ℕ) (x : List A) : Type 0 where
  pub most : k ≤ s
  pub size : length x ≡ s
  pub at : (i : ℕ) → i < k → P i (get_or x i d)

pub array_none : {A : Type 0} {d : A} {P : ℕ → A → Type 0} {s : ℕ} {x : List A} → length x ≡ s → ArrayWritten d P s 0 x
array_none e = record { most = omega arith; size = e; at = λ i l. absurd (omega arith) }

pub array_next : {A : Type 0} {d : A} {P : ℕ → A → Type 0} {s k k' : ℕ} {x x' : List A} (v : A) → ArrayWritten d P s k x → P k v → k < s
    → x' ≡ set x k v → k' ≡ k + 1 → ArrayWritten d P s k' x'
array_next {A} {d} {P} {s} {k} {k'} {x} {x'} v w p l ex ek =
    rw (ex, ek) (record { most = omega arith; size = length-set x k v ∙ w.size; at = λ i h. go i h (ℕ_discrete i k) })
  where
    go : (i : ℕ) → i < k + 1 → Dec (i ≡ k) → P i (get_or (set x k v) i d)
    go i h (yes e) =
        subst (λ (j : ℕ). P j (get_or (set x k v) j d)) (sym e) (subst (P k) (sym (get_or-set_same x k v d (omega (arith, w.size)))) p)
    go i h (no e) = subst (P i) (sym (get_or-set_other x k i v d e)) (w.at i (omega arith))
