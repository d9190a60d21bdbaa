-- The words of h with zeros above, as the code stores them.
--
--   Padded      i words of h are stored, the invariant of `padded`
--   padding     the rules
use mathlib.Core.Path.{◌≡◌, sym, ap, ◌∙◌}
use mathlib.Core.List.{List, [], ◌∷◌, ◌++◌}
use Prim.Native.Nat.{ℕ, zero, suc, ◌+◌, ◌-◌, ◌≤◌, ◌<◌}
use native.Mathlib.Numerals.{add-one}
use native.Mathlib.Omega.{arith}
use borrow.Author.Rules.{rules}
use lib.ListN.{length, get_or, set, take, replicate}
use lib.Seq.{take_all}

stored_at : (m : ℕ) (h : List ℕ) (i : ℕ) → i < length h → i < m
    → set (take i h ++ replicate (m - i) 0) i (get_or h i 0) ≡ take (suc i) h ++ replicate (m - suc i) 0
stored_at m [] i l b = absurd (omega arith)
stored_at zero (x ∷ h) i l b = absurd (omega arith)
stored_at (suc m) (x ∷ h) zero l b =
    let p : suc m - 0 ≡ suc m = omega arith in
    let q : m ≡ suc m - 1 = omega arith in
    ap (λ (j : ℕ). set (replicate j 0) 0 x) p ∙ ap (λ (j : ℕ). x ∷ replicate j 0) q
stored_at (suc m) (x ∷ h) (suc i) l b =
    let p : suc m - suc i ≡ m - i = omega arith in
    let q : suc m - suc (suc i) ≡ m - suc i = omega arith in
    ap (λ (j : ℕ). set (x ∷ (take i h ++ replicate j 0)) (suc i) (get_or h i 0)) p
    ∙ ap (λ (t : List ℕ). x ∷ t) (stored_at m h i (omega arith) (omega arith))
    ∙ ap (λ (j : ℕ). x ∷ (take (suc i) h ++ replicate j 0)) (sym q)

-- i words of h, and zeros up to 49
pub record Padded (h w : List ℕ) (i : ℕ) : Type 0 where
  pub most : i ≤ length h
  pub so : w ≡ take i h ++ replicate (49 - i) 0

module _ {h w : List ℕ} {i : ℕ} (p : Padded h w i) where
  pub padded_next : {w' : List ℕ} {i' : ℕ} → i < length h → length h ≤ 49 → w' ≡ set w i (get_or h i 0) → i' ≡ i + 1 → Padded h w' i'
  padded_next l b ew ei =
      rw (ew, ei) (record { most = omega arith; so = rw (p.so, add-one i) (stored_at 49 h i l (omega arith)) })

  pub padded_end : length h ≤ i → w ≡ h ++ replicate (49 - length h) 0
  padded_end l =
      let z : i ≡ length h = omega (arith, p.most) in
      p.so ∙ ap (λ (t : List ℕ). t ++ replicate (49 - i) 0) (take_all i h l) ∙ ap (λ (j : ℕ). h ++ replicate (49 - j) 0) z

pub ruleset padding = (rules, padded_next, padded_end)
