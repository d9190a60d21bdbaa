-- What a round of `product_word_by` keeps where each term is reduced as it comes: x is the sum of the terms before place i, modulo n.
--
--   Reduced n k i x f g                      that, with the places that are left
--   reduced_start, reduced_step, reduced_end    at the start, a term more, and at the end
--   terms                                    the rules
use mathlib.Core.Path.{◌≡◌, sym, ap, ◌∙◌}
use mathlib.Core.List.{List}
use Prim.Native.Nat.{ℕ, min, ◌+◌, ◌-◌, ◌*◌, ◌%◌, ◌<◌, ◌≤◌}
use native.Mathlib.Nat.{mod-lt, mod-eq_of_lt}
use native.Mathlib.Numerals.{add-one}
use native.Mathlib.Omega.{arith}
use lib.ListN.{length}
use Rattle.definitions.specs.Polynomials.{coef, total, convolve}
use Rattle.law_numbers.specs.Congruence.{Cong, c_refl, c_trans, c_eq, c_add, c_mod}
use Rattle.convolution.specs.Carries.{wide}
use Rattle.convolution.specs.Sums.{total_last}
use Rattle.convolution.proofs.Terms.{Summed, summed_start, rest, products}

pub record Reduced (n k i x : ℕ) (f g : List ℕ) : Type 0 where
  pub most : i ≤ k + 1
  pub least : k + 1 ≤ i + length g
  pub small : x < n
  pub sum : Cong n x (total i (λ (j : ℕ). coef f j * coef g (k - j)))

nothing : {k i : ℕ} {f g : List ℕ} → Summed k i 0 0 f g → 0 ≡ total i (λ (j : ℕ). coef f j * coef g (k - j))
unfolding wide
nothing s = s.sum

pub reduced_start : {n k i : ℕ} {f g : List ℕ} → i ≡ k + 1 - length g → (length g ≡ 0 → ⊥) → 1 ≤ n → Reduced n k i 0 f g
reduced_start {n} {k} {i} {f} {g} e ne l = let s : Summed k i 0 0 f g = summed_start e ne in
    record { most = s.most; least = s.least; small = l; sum = c_eq (nothing s) }

pub reduced_step : {n k i x x' i' l : ℕ} {f g : List ℕ} → Reduced n k i x f g → x' ≡ (x + coef f i * coef g (k - i)) % n
    → l ≡ min (k + 1) (length f) → i < l → i' ≡ i + 1 → Reduced n k i' x' f g
reduced_step {n} {k} {i} {x} {f = f} {g = g} s e el b ei =
    let F : ℕ → ℕ = λ (j : ℕ). coef f j * coef g (k - j) in
    rw ei (record {
      most = omega arith;
      least = omega (arith, s.least);
      small = rw e (mod-lt (x + F i) (omega (arith, s.small)));
      sum = c_trans (c_eq e) (c_trans (c_mod (x + F i)) (c_trans (c_add s.sum (c_refl {a = F i}))
          (c_eq (sym (ap (λ (j : ℕ). total j F) (add-one i) ∙ total_last i F)))));
    })

pub reduced_end : {n k i x l : ℕ} {f g : List ℕ} → Reduced n k i x f g → l ≡ min (k + 1) (length f) → l ≤ i
    → x ≡ convolve (coef f) (coef g) k % n
reduced_end {n} {k} {i} {f = f} {g = g} s el b =
    sym (mod-eq_of_lt s.small) ∙ s.sum.same ∙ ap (λ (z : ℕ). z % n) (sym (rest k i f g s.most (omega arith)))

pub ruleset terms = (products, reduced_start, reduced_step, reduced_end)
