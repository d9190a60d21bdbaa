-- The words that a text comes to, a character at a time.
--
--   Gathering s i c x w₀ w     the rest of s from place i on, read on from here, comes to what the whole of s comes to: the invariant
--                              of `gather`. c and x are the coefficient and the number being read
--   gathers                    the rules
use mathlib.Core.Path.{◌≡◌, sym, ap, ◌∙◌}
use mathlib.Core.Bool.{cond}
use mathlib.Core.List.{List}
use Prim.Native.Nat.{ℕ, ◌+◌, ◌≤◌, ◌<◌}
use native.Mathlib.Numerals.{add-one}
use native.Mathlib.Omega.{arith}
use borrow.Author.Rules.{rules}
use borrow.Author.Tests.{lt-ltb}
use lib.Dec.{eqb}
use lib.ListN.{length, get_or, drop, drop_of_length-le}
use lib.Seq.{drop-cons}
use Rattle.text_notation.specs.Candidates.{number_after_of, coefficient_after_of, stored, gathered}
use Rattle.text_notation.proofs.NotationLaws.{after_length}
use Rattle.text_gathering.specs.InWord.{in_word}

pub fits_in_word : (y : ℕ) → y < 4294967296 → in_word y ≡ y
fits_in_word y h = rw (lt-ltb y 4294967296 h)

pub record Gathering (s : List ℕ) (i c x : ℕ) (w₀ w : List ℕ) : Type 0 where
  pub most : i ≤ length s
  pub same : length w ≡ length w₀
  pub so : gathered in_word s 0 0 w₀ ≡ gathered in_word (drop i s) c x w

module _ {s : List ℕ} {i c x : ℕ} {w₀ w : List ℕ} (g : Gathering s i c x w₀ w) where
  pub gathering_next : {i' c' x' : ℕ} {v : List ℕ} → i < length s → v ≡ cond (eqb (get_or s i 0) 43) (stored c x w) w
      → c' ≡ coefficient_after_of (get_or s i 0) c x → x' ≡ number_after_of in_word (get_or s i 0) x → i' ≡ i + 1 → Gathering s i' c' x' w₀ v
  unfolding gathered
  gathering_next {v = v} h e e₁ e₂ ei =
      let b = get_or s i 0 in
      rw (ei, e₁, e₂) (record {
        most = omega arith;
        same = ap length e ∙ after_length b c x w ∙ g.same;
        so = g.so
            ∙ ap (λ (t : List ℕ). gathered in_word t c x w) (drop-cons s i 0 h)
            ∙ ap (λ (k : ℕ). gathered in_word (drop k s) (coefficient_after_of b c x) (number_after_of in_word b x)
            (cond (eqb b 43) (stored c x w) w)) (sym (add-one i))
            ∙ ap (gathered in_word (drop (i + 1) s) (coefficient_after_of b c x) (number_after_of in_word b x)) (sym e);
      })

  pub gathering_end : (v : List ℕ) → length s ≤ i → v ≡ stored c x w → v ≡ gathered in_word s 0 0 w₀
  unfolding gathered
  gathering_end v h e = e ∙ sym (g.so ∙ ap (λ (t : List ℕ). gathered in_word t c x w) (drop_of_length-le s {i = i} h))

pub ruleset gathers = (rules, gathering_next, gathering_end)
