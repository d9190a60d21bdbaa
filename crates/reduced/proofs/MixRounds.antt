-- What a round of `mix` keeps, and what the other functions come to, for words of any width.
--
--   Mixing                       the invariant of `mix`, with its start, round and end
--   second-…, first-…            the length of a cofactor, by which polynomial is the longer
--   saved_told, merged_told      the cofactors saved, and joined
--   runs, by_factors             the rules
use mathlib.Core.Path.{◌≡◌, refl, sym, ap, subst, ◌∙◌}
use mathlib.Core.List.{List}
use Prim.Native.Nat.{ℕ, ◌+◌, ◌-◌, ◌*◌, ◌%◌, ◌≤◌, ◌<◌}
use native.Mathlib.Nat.{sub-zero, mul-pos}
use native.Mathlib.Omega.{arith}
use borrow.Author.Rules.{rules}
use borrow.Rule.Slice.PartMut.{mid_of}
use lib.ListN.{length, get_or, set, take, drop}
use mir.Syntax.{w64}
use mir.Val.{Fits}
use Rattle.definitions.specs.Polynomials.{L}
use Rattle.definitions.specs.Residues.{K}
use Rattle.law_numbers.specs.Coprimality.{coprime_sym}
use Rattle.reduction.proofs.Reciprocals.{modulo, never}
use Rattle.windows.specs.Window.{piece, Moved, mulBy, Loaded}
use Rattle.residue.specs.Moduli.{CoprimeModuli}
use Rattle.reduced_units.proofs.Regions.{part_piece}
use Rattle.reduced.specs.Runs.{MixedWords, SaveAsked, Saved, MergeAsked, Merged}
use Rattle.reduced.proofs.Mixing.{Adding, adding_none, adding_step, mixed_end, saved_of, length_second, length_first}
use Rattle.reduced.proofs.Joins.{merged_of, falls, factors, answers}

-- ---- mix

pub record Mixing (n a : ℕ) (s u₀ u : List ℕ) (j : ℕ) : Type 0 where
  pub short : length s ≤ length u₀
  pub most : j ≤ length s
  pub done : Adding n a j s u₀ u

pub mixing_none : {op : ℕ → ℕ → ℕ} {z : ℕ} {u u₁ : List ℕ} (n a : ℕ) (s : List ℕ) → Moved op 0 0 z u u₁ → length s ≤ length u
    → Mixing n a s u₁ u₁ 0
mixing_none n a s m l = record { short = omega (arith, m.same); most = omega arith; done = adding_none _ _ _ _ }

pub mixing_next : {n a j j' : ℕ} {s u₀ u u' : List ℕ} (r : ℕ) → Mixing n a s u₀ u j → j < length s
    → r ≡ (get_or u j 0 + a * get_or s j 0) % n → u' ≡ set u j r → j' ≡ j + 1 → Mixing n a s u₀ u' j'
mixing_next r m l er eu ej =
    rw (eu, ej) (record { short = m.short; most = omega arith; done = adding_step m.done (omega (arith, m.short)) er })

pub mixing_end : {n a b j : ℕ} {s u u₁ u₂ : List ℕ} → Moved (mulBy n b) 0 0 (length u) u u₁ → length s ≤ length u → Mixing n a s u₁ u₂ j
    → length s ≤ j → MixedWords n a b s u u₂
mixing_end mv l m h = mixed_end _ _ _ _ _ _ _ _ _ refl l (omega (arith, m.most)) mv m.done

pub mixing_never : {n a b : ℕ} {s u u' : List ℕ} (v x : ℕ) → 1 ≤ n → v ≡ x % n → n ≤ v → MixedWords n a b s u u'
mixing_never v x l h t = absurd (never x l refl h t)

-- ---- the length of a cofactor

module _ (p κ a b : ℕ) (e : κ ≡ K p) (fits : L p (a - 1) (b - 1) < 18446744073709551616) where
  pub second_product : a < b → 1 ≤ a → Fits w64 (κ * (b - 1))
  second_product h one = record { fits = omega (arith, length_second p κ a b e h one) }

  pub second_sum : a < b → 1 ≤ a → Fits w64 (κ * (b - 1) + 1)
  second_sum h one = record { fits = omega (arith, length_second p κ a b e h one) }

  pub first_product : b ≤ a → Fits w64 (κ * (a - 1))
  first_product h = record { fits = omega (arith, length_first p κ a b e h) }

  pub first_sum : b ≤ a → Fits w64 (κ * (a - 1) + 1)
  first_sum h = record { fits = omega (arith, length_first p κ a b e h) }

-- ---- save and merge

pub saved_told : {n a b l : ℕ} {u v w w₁ w₂ : List ℕ} → SaveAsked n a b u v w → l ≡ L n (a - 1) (b - 1)
    → Loaded n 0 (mid_of 0 (l - 0) u) w w₁
    → Loaded n l (mid_of 0 (l - 0) v) w₁ w₂ → Saved n l u v w w₂
saved_told {n} {a} {b} {l} {u} {v} {w} {w₁} {w₂} p e lu lv =
    saved_of n l u v w w₁ w₂ (subst (λ (y : ℕ). 2 * y ≤ length w) (sym e) p.room) (subst (λ (y : ℕ). y ≤ length u) (sym e) p.first)
    (subst (λ (y : ℕ). y ≤ length v) (sym e) p.second)
    (subst (λ (f : List ℕ). Loaded n 0 f w w₁) (part_piece u 0 l _ (sub-zero l)) lu)
    (subst (λ (f : List ℕ). Loaded n l f w₁ w₂) (part_piece v 0 l _ (sub-zero l)) lv)

module _ {m p q l : ℕ} {u v w : List ℕ} (x : MergeAsked m p q l u v w) where
  pub first_idempotent : CoprimeModuli m p q
  first_idempotent = record {
    some₁ = omega (arith, x.factors.above₁);
    some₂ = omega (arith, x.factors.above₂);
    word = x.word;
    coprime = x.factors.coprime;
  }

  pub second_idempotent : CoprimeModuli m q p
  second_idempotent = record {
    some₁ = omega (arith, x.factors.above₂);
    some₂ = omega (arith, x.factors.above₁);
    word = omega (arith, x.word);
    coprime = coprime_sym x.factors.coprime;
  }

-- k is the n of the record
pub merged_told : {p q l d₁ d₂ a b k : ℕ} {w u u' v v' : List ℕ} (r s : ℕ) → (r % p ≡ 1 % p) × (r % q ≡ 0) → (s % q ≡ 1 % q) × (s % p ≡ 0)
    → a ≡ (r * d₂) % k → b ≡ (s * d₁) % k → MixedWords k a b (mid_of 0 (l - 0) w) u u' → MixedWords k a b (mid_of l (l + l - l) w) v v'
    → k ≡ p * q → Merged p q l d₁ d₂ w u u' v v'
merged_told {p} {q} {l} {d₁} {d₂} {a} {b} {k} {w} {u} {u'} {v} {v'} r s i j ea eb mu mv e =
    let y : l + l - l ≡ l = omega arith in
    merged_of p q l d₁ d₂ r s a b w u u' v v' i.0 i.1 j.0 j.1 (modulo _ e ea) (modulo _ e eb)
    (subst (λ (f : List ℕ). MixedWords (p * q) a b f u u') (part_piece w 0 l _ (sub-zero l))
    (subst (λ (n : ℕ). MixedWords n a b (mid_of 0 (l - 0) w) u u') e mu))
    (subst (λ (f : List ℕ). MixedWords (p * q) a b f v v') (part_piece w l l _ y)
    (subst (λ (n : ℕ). MixedWords n a b (mid_of l (l + l - l) w) v v') e mv))

pub some_modulus : {m p q l : ℕ} {u v w : List ℕ} → MergeAsked m p q l u v w → 1 ≤ p * q
some_modulus x = mul-pos (omega (arith, x.factors.above₁)) (omega (arith, x.factors.above₂))

pub ruleset mixes = (mixing_none, mixing_next, mixing_end, mixing_never)

pub ruleset sizes = (length_second, length_first, second_product, second_sum, first_product, first_sum)

pub ruleset runs = (rules, mixes, sizes, saved_told, some_modulus, first_idempotent, second_idempotent, merged_told)

pub ruleset by_factors = (rules, falls, factors, answers)
