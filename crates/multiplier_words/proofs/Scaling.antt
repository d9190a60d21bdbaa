-- A constant that two polynomials combine to, times a number.
--
--   bound_scaled         the multipliers times z
--   handed_combination   the multipliers as handed out
use mathlib.Core.Path.{◌≡◌, refl, sym, ap, ◌∙◌}
use mathlib.Core.List.{List}
use mathlib.Core.Logic.{◌⊎◌, inl, inr}
use Prim.Native.Nat.{ℕ, zero, suc, ◌+◌, ◌*◌, ◌%◌, ◌≤◌, ◌<◌}
use native.Mathlib.Nat.{mod-mod}
use native.Mathlib.Omega.{arith}
use lib.ListN.{length}
use Rattle.definitions.specs.Polynomials.{coef, convolve, constant}
use Rattle.definitions.specs.Resultants.{Combination}
use Rattle.law_numbers.specs.Congruence.{Cong, c_refl, c_trans, c_eq, c_add, c_mul}
use Rattle.law_polynomials.specs.ReachedSteps.{convolve_mod, convolve_scale_left, constant_scale}
use Rattle.windows.specs.Window.{piece}
use Rattle.windows.proofs.Leaf.{lt_or_le, piece_at, piece_over}
use Rattle.modulus.specs.declared.Modulus.{Modulus}
use Rattle.modulus.specs.Values.{value, values}
use Rattle.euclid_steps.specs.declared.Ending.{Ending}
use Rattle.euclid_steps.specs.Steps.{Bound}
use Rattle.euclid_steps.specs.EuclidStages.{polynomial}
use Rattle.euclid_steps.specs.Multiplied.{Multiplied}
use Rattle.multiplier_words.specs.Words.{Put, Handed}

pub bound_scaled : (n z K C x : ℕ) (f g u v : List ℕ) (β γ : ℕ → ℕ) → 1 ≤ n → ((k : ℕ) → coef u k % n ≡ (z * β k) % n)
    → ((k : ℕ) → coef v k % n ≡ (z * K * γ k) % n) → x % n ≡ (z * C) % n → Bound n (coef f) (coef g) K β γ C → Combination n f g u v x
bound_scaled n z K C x f g u v β γ pos hu hv hx h = record {
  sum = λ k.
      (c_trans (c_add (part f u β z hu k) (part g v γ (z * K) hv k))
      (c_trans (c_eq (elimination z K (convolve β (coef f) k) (convolve γ (coef g) k)))
      (c_trans (c_mul (c_refl {a = z}) (record { same = h.at k })) (c_trans (c_eq (sym (constant_scale z C k))) (ends k))))).same;
}
  where
    part : (f u : List ℕ) (β : ℕ → ℕ) (z : ℕ) → ((k : ℕ) → coef u k % n ≡ (z * β k) % n) → (k : ℕ)
        → Cong n (convolve (coef u) (coef f) k) (z * convolve β (coef f) k)
    part f u β z h k = c_trans (record { same = convolve_mod n pos (coef u) (λ j. z * β j) (coef f) (coef f) h (λ j. refl) k })
        (c_eq (convolve_scale_left z β (coef f) k))

    elimination : (z K x y : ℕ) → z * x + z * K * y ≡ z * (x + K * y)
    elimination z K x y = omega arith

    ends : (k : ℕ) → Cong n (constant (z * C) k) (constant x k)
    ends zero = record { same = sym hx }
    ends (suc k) = c_refl

-- the words of a window that are put are all that it has
put_all : (n c at l h : ℕ) (w u u' : List ℕ) → l ≤ h → ((j : ℕ) → l ≤ j → coef (piece w at h) j ≡ 0) → Put n c at l w u u' → (k : ℕ)
    → coef u' k % n ≡ (c * coef (piece w at h) k) % n
put_all n c at l h w u u' le ends p k =
    ap (λ (x : ℕ). x % n) (p.words k) ∙ mod-mod _ n ∙ ap (λ (x : ℕ). (c * x) % n) (same (lt_or_le k l))
  where
    same : (k < l) ⊎ (l ≤ k) → coef (piece w at l) k ≡ coef (piece w at h) k
    same (inl q) = piece_at w at l k q ∙ sym (piece_at w at h k (omega arith))
    same (inr q) = piece_over w at l k q ∙ sym (ends k q)

pub handed_combination : {m : Modulus} {f g : List ℕ} {r : Ending ℕ} {z a b x : ℕ} {w u v u' v' : List ℕ} → 1 ≤ m.n → Multiplied m f g r w
    → Handed m r z a b w u v u' v' → a ≤ length g → b ≤ length g → ((j : ℕ) → a ≤ j → polynomial m w r.u (length g) j ≡ 0)
    → ((j : ℕ) → b ≤ j → polynomial m w r.v (length g) j ≡ 0) → x % m.n ≡ (z * value m r.c) % m.n
    → Combination m.n f g u' v' x
handed_combination {m} {f} {g} {r} {z} {a} {b} {x} {w} {u} {v} {u'} {v'} pos mu h la lb ea eb hx =
    bound_scaled m.n z (value m r.k) (value m r.c) x f g u' v' (polynomial m w r.u (length g))
    (polynomial m w r.v (length g)) pos
    (put_all m.n z r.u a (length g) (values m w) u u' la ea h.first)
    (put_all m.n (z * value m r.k) r.v b (length g) (values m w) v v' lb eb h.second) hx mu.bound
