-- An answer turned into another: times a number, with a sign, from a divisor of the modulus to the modulus. The rules take the facts as
-- the code hands them over.
--
--   value_times, value_sign, value_lift, split_same    a value turned, and a split that stays
--   value_below, split_own, split_divides              what an answer that is a value or a split says
--   sign_even, sign_changed                            the sign of d e by the parity of d
--   followed, answer_follows    what the answer made of an answer says; that it is one
--   splits_kind, no_unit, no_power    the three kinds of a factor of a split modulo n
--   rotated, splitting           the rules
use mathlib.Core.Path.{◌≡◌, refl, sym, ap, subst, ◌∙◌}
use Prim.Native.Nat.{ℕ, ◌*◌, ◌%◌, ◌≤◌, ◌<◌, ◌∣◌}
use native.Mathlib.Omega.{arith}
use native.Mathlib.Nat.{mod-lt, le_of_dvd, dvd_refl, dvd_trans, dvd-mul_right, dvd-mul_left, dvd_of_mod-eq-zero}
use borrow.Author.Rules.{rules}
use Rattle.std.specs.Prelude.{Result, Ok, Err}
use Rattle.law_numbers.specs.Units.{coprime_of_unit}
use Rattle.law_numbers.specs.Coprimality.{coprime_sym, coprime_power}
use Rattle.law_polynomials.specs.ResultantLaws.{signed}
use Rattle.window_factor.specs.Factors.{SplitOf}
use Rattle.window_factor.proofs.Cases.{splits_kind}
use Rattle.residue.specs.Kinds.{KindOf}
use Rattle.residue.specs.declared.Kind.{Kind}
use Rattle.residue.specs.declared.Kind.TheVariants.{Unit as Unit', Nilpotent}
use Rattle.residue.specs.declared.Split.{Split}
use Rattle.resultant_signs.specs.Signs.{signed_lt, sign_first, sign_odd}
use Rattle.resultant_steps.specs.AttemptAnswers.{ValueOrSplit, IsAnswer, Partial, Follows, Lifted}

module _ {n v : ℕ} {a : Result ℕ (Split ℕ)} where
  pub value_times : {r : ℕ} {F : ℕ → ℕ} (c : ℕ) → r ≡ (c * v) % n → a ≡ Ok v → 1 ≤ n → F ≡ (λ x. (c * x) % n) → Follows n F a (Ok r)
  value_times {r} c h e l f = subst (λ F. Follows n F a (Ok r)) (sym f) (record {
    at = λ x p. let q = subst (ValueOrSplit n x) e p in
        (h ∙ ap (λ (y : ℕ). (c * y) % n) q.0, subst (λ (y : ℕ). y < n) (sym h) (mod-lt (c * v) l));
  })

  pub value_sign : {r : ℕ} (k : ℕ) → r ≡ signed n k v → a ≡ Ok v → Follows n (signed n k) a (Ok r)
  value_sign k h e = record {
    at = λ x p. let q = subst (ValueOrSplit n x) e p in
        (h ∙ ap (signed n k) q.0, subst (λ (y : ℕ). y < n) (sym h) (signed_lt n k v q.1));
  }

  pub value_lift : a ≡ Ok v → 2 ≤ n → Lifted n a (Ok v)
  value_lift e l = record {
    at = λ m x d p. let q = subst (ValueOrSplit m x) e p in (q.0, omega (arith, q.1, le_of_dvd {n = n} (omega arith) d));
  }

  pub value_below : IsAnswer n a → a ≡ Ok v → v < n
  value_below p e = (subst (ValueOrSplit n p.x) e p.is).1

module _ {n : ℕ} {s : Split ℕ} {a : Result ℕ (Split ℕ)} where
  pub split_same : {F : ℕ → ℕ} → a ≡ Err s → Follows n F a (Err s)
  split_same e = record { at = λ x h. subst (ValueOrSplit n x) e h }

  -- a split of a divisor of n is one of the product of its factors
  pub split_own : Partial n a → a ≡ Err s → SplitOf (s.p * s.q) s.p s.q
  split_own h e =
      let y = subst (ValueOrSplit h.m h.answer.x) e h.answer.is in
      record { product = refl; above₁ = y.above₁; above₂ = y.above₂; coprime = y.coprime }

  pub split_divides : Partial n a → a ≡ Err s → s.p * s.q ∣ n
  split_divides h e =
      subst (λ (x : ℕ). x ∣ n) (sym (subst (ValueOrSplit h.m h.answer.x) e h.answer.is).product) h.divides

module _ {n x : ℕ} (d e : ℕ) (l : x < n) where
  pub sign_even : d % 2 ≡ 0 → x ≡ signed n (d * e) x
  sign_even = sign_first n d e x l

  pub sign_changed : {r : ℕ} → r ≡ signed n e x → (d % 2 ≡ 0 → ⊥) → r ≡ signed n (d * e) x
  sign_changed h o = h ∙ sign_odd n d e x l (omega arith)

pub followed : {n : ℕ} {F : ℕ → ℕ} {x y : ℕ} {r s : Result ℕ (Split ℕ)} → Follows n F r s → ValueOrSplit n x r → F x ≡ y → ValueOrSplit n y s
followed {n} {F} {x} {y} {r} {s} f a e = subst (λ (z : ℕ). ValueOrSplit n z s) e (f.at x a)

-- an answer that follows from an answer
pub answer_follows : {n : ℕ} {F : ℕ → ℕ} {r s : Result ℕ (Split ℕ)} → Follows n F r s → IsAnswer n r → IsAnswer n s
answer_follows {n} {F} h a = record { x = F a.x; is = h.at a.x a.is }

pub ruleset rotated = (
  rules,
  value_times,
  value_sign,
  value_lift,
  value_below,
  split_same,
  split_own,
  split_divides,
  sign_even,
  sign_changed,
)

-- ---- a split of a divisor of n leads to one of n: a factor p of it is neither a unit nor nilpotent modulo n

module _ {n p q : ℕ} {k : Kind ℕ} (r : KindOf n p k) where
  pub no_unit : {i : ℕ} → k ≡ Unit' i → SplitOf (p * q) p q → p * q ∣ n → SplitOf n p q
  no_unit {i} u s h =
      let e : p ≡ 1 = (coprime_of_unit (record { inverse = i; is = subst (KindOf n p) u r })).only p (dvd_trans p (dvd-mul_right p q) h)
      (dvd_refl p) in
      absurd (omega (arith, s.above₁))

  pub no_power : k ≡ Nilpotent → SplitOf (p * q) p q → p * q ∣ n → SplitOf n p q
  no_power u s h =
      let z = subst (KindOf n p) u r in
      let e : q ≡ 1 = (coprime_power (omega (arith, s.above₂)) (coprime_sym s.coprime) z.exponent).only q (dvd_refl q)
      (dvd_trans q (dvd-mul_left q p) (dvd_trans (p * q) h (dvd_of_mod-eq-zero n z.power))) in
      absurd (omega (arith, s.above₂))

pub ruleset splitting = (rules, splits_kind, no_unit, no_power)
