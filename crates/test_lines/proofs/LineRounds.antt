-- What a round of each loop keeps. A rule's premises are facts as the code provides them, so that `search spells` finds them.
--
--   Passed            the invariant of `ending`
--   Spelling, ..      that of the number that characters spell, with its start and its round
--   spells            the rules
use mathlib.Core.Path.{◌≡◌, refl, sym, ap, ◌∙◌}
use mathlib.Core.List.{List, [], ◌∷◌, ◌++◌}
use Prim.Native.Nat.{ℕ, suc, ◌+◌, ◌-◌, ◌*◌, ◌%◌, ◌≤◌, ◌<◌}
use native.Mathlib.Omega.{arith}
use borrow.Author.Rules.{rules}
use lib.ListN.{length, get_or, take, drop, length-drop}
use lib.Seq.{get_or-drop, take-suc}
use Rattle.test_lines.specs.Lines.{hexadecimal, spelled, part}

-- ---- the words at the end that are one number

pub record Passed (x : ℕ) (w : List ℕ) (l i : ℕ) : Type 0 where
  pub all : l ≡ length w
  pub most : i ≤ length w
  pub last : (k : ℕ) → i ≤ k → k < length w → get_or w k 0 ≡ x

-- ---- the number that characters spell

-- the characters of s from place at up to place i are read
pub record Spelling (s : List ℕ) (at end x i : ℕ) : Type 0 where
  pub from : at ≤ i
  pub most : i - at ≤ end - at
  pub so : x ≡ spelled 0 (part s at i) % 18446744073709551616

spelled_last : (x : ℕ) (s : List ℕ) (c : ℕ) → spelled x (s ++ c ∷ []) ≡ spelled x s * 16 + hexadecimal c
unfolding spelled
spelled_last x [] c = refl
spelled_last x (a ∷ s) c = spelled_last (x * 16 + hexadecimal a) s c

folded : (x d : ℕ) → (x % 18446744073709551616 * 16 + d) % 18446744073709551616 ≡ (x * 16 + d) % 18446744073709551616
folded x d = omega arith

pub spelling_none : (s : List ℕ) (at end : ℕ) → Spelling s at end 0 at
unfolding spelled
spelling_none s at end = record {
  from = omega arith;
  most = omega arith;
  so = let e : 0 ≡ at - at = omega arith in ap (λ (k : ℕ). spelled 0 (take k (drop at s)) % 18446744073709551616) e;
}

module _ {s : List ℕ} {at end x i : ℕ} (p : Spelling s at end x i) where
  pub spelling_next : {x' i' : ℕ} → i < end → i < length s
      → x' ≡ (x * 16 + hexadecimal (get_or s i 0)) % 18446744073709551616 → i' ≡ i + 1 → Spelling s at end x' i'
  spelling_next h l ex ei =
      let j = i - at in
      let e : suc j ≡ i + 1 - at = omega (arith, p.from) in
      let c : get_or (drop at s) j 0 ≡ get_or s i 0 =
      get_or-drop at s j 0 ∙ ap (λ (k : ℕ). get_or s k 0) (omega (arith, p.from)) in
      let more : part s at (i + 1) ≡ part s at i ++ get_or s i 0 ∷ [] =
      ap (λ (k : ℕ). take k (drop at s)) (sym e) ∙ take-suc (drop at s) j 0 (omega (arith, length-drop at s, p.from))
      ∙ ap (λ (k : ℕ). part s at i ++ k ∷ []) c in
      rw ei (record {
        from = omega (arith, p.from);
        most = omega (arith, p.from, p.most);
        so = ex ∙ ap (λ (y : ℕ). (y * 16 + hexadecimal (get_or s i 0)) % 18446744073709551616) p.so
            ∙ folded (spelled 0 (part s at i)) (hexadecimal (get_or s i 0))
            ∙ ap (λ (y : ℕ). y % 18446744073709551616)
            (sym (ap (spelled 0) more ∙ spelled_last 0 (part s at i) (get_or s i 0)));
      })

pub ruleset spells = (rules, spelling_none, spelling_next)
