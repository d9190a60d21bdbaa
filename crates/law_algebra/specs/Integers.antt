-- The integers are a commutative ring in which a nonzero factor cancels.
--
--   ℤ-ring          the ring of integers
--   no_divisors     a b = 0 and a ≠ 0 give b = 0
--   cancel          a b = a c and a ≠ 0 give b = c
--
-- Letters: a, b, c, k are integers; m, n numbers.
use Rattle.std.specs.Prelude.{◌≡◌, refl, ◌≢◌, ℕ, zero, suc, ◌<◌, ◌*◌ as ◌*ℕ◌, ℤ, pos, negsuc, neg_ℤ, nat_abs, ◌+ℤ◌, ◌*ℤ◌, ◌-ℤ◌}
use Rattle.std.proofs.Common.{sym, ◌∙◌, ap, ap₂, mul-pos, arith}
use Rattle.std.proofs.Math.IntN.{suc_ℤ, pred_ℤ, one, +ℤ_assoc, +ℤ_comm, +ℤ_idl, +ℤ_invl, +ℤ_invr, suc_ℤ-+ℤ, pred_ℤ-+ℤ, suc_ℤ-*ℤ, pred_ℤ-*ℤ, *ℤ_comm, *ℤ-one, zero-*ℤ}
use Rattle.law_algebra.specs.Ring.{CRing, add_neg, add_cancel, mul_neg}

pub ups : (P : ℤ → Type 0) → P (pos 0) → ((k : ℤ) → P k → P (suc_ℤ k)) → (n : ℕ) → P (pos n)
ups P z s zero = z
ups P z s (suc n) = s (pos n) (ups P z s n)

pub downs : (P : ℤ → Type 0) → P (pos 0) → ((k : ℤ) → P k → P (pred_ℤ k)) → (n : ℕ) → P (negsuc n)
downs P z p zero = p (pos 0) z
downs P z p (suc n) = p (negsuc n) (downs P z p n)

pub induct : (P : ℤ → Type 0) → P (pos 0) → ((k : ℤ) → P k → P (suc_ℤ k)) → ((k : ℤ) → P k → P (pred_ℤ k)) → (k : ℤ) → P k
induct P z s p (pos n) = ups P z s n
induct P z s p (negsuc n) = downs P z p n

last : (a b c : ℤ) → a +ℤ b +ℤ c ≡ a +ℤ c +ℤ b
last a b c = +ℤ_assoc a b c ∙ ap (λ x. a +ℤ x) (+ℤ_comm b c) ∙ sym (+ℤ_assoc a c b)

pub add_mul : (a b c : ℤ) → (a +ℤ b) *ℤ c ≡ a *ℤ c +ℤ b *ℤ c
add_mul a b c = induct (λ a. (a +ℤ b) *ℤ c ≡ a *ℤ c +ℤ b *ℤ c)
    (ap (λ x. x *ℤ c) (+ℤ_idl b) ∙ sym (ap (λ x. x +ℤ b *ℤ c) (zero-*ℤ c) ∙ +ℤ_idl (b *ℤ c)))
    (λ k h. ap (λ x. x *ℤ c) (suc_ℤ-+ℤ k b) ∙ suc_ℤ-*ℤ (k +ℤ b) c ∙ ap (λ x. x +ℤ c) h ∙ last (k *ℤ c) (b *ℤ c) c
    ∙ ap (λ x. x +ℤ b *ℤ c) (sym (suc_ℤ-*ℤ k c)))
    (λ k h. ap (λ x. x *ℤ c) (pred_ℤ-+ℤ k b) ∙ pred_ℤ-*ℤ (k +ℤ b) c ∙ ap (λ x. x -ℤ c) h ∙ last (k *ℤ c) (b *ℤ c) (neg_ℤ c)
    ∙ ap (λ x. x +ℤ b *ℤ c) (sym (pred_ℤ-*ℤ k c)))
    a

pub +ℤ_cancel : (a b c : ℤ) → a +ℤ b ≡ a +ℤ c → b ≡ c
+ℤ_cancel a b c h =
    sym (+ℤ_idl b) ∙ ap (λ x. x +ℤ b) (sym (+ℤ_invl a)) ∙ +ℤ_assoc (neg_ℤ a) a b ∙ ap (λ x. neg_ℤ a +ℤ x) h
    ∙ sym (+ℤ_assoc (neg_ℤ a) a c) ∙ ap (λ x. x +ℤ c) (+ℤ_invl a) ∙ +ℤ_idl c

pub neg_mul : (a b : ℤ) → neg_ℤ a *ℤ b ≡ neg_ℤ (a *ℤ b)
neg_mul a b = +ℤ_cancel (a *ℤ b) (neg_ℤ a *ℤ b) (neg_ℤ (a *ℤ b))
    (sym (add_mul a (neg_ℤ a) b) ∙ ap (λ x. x *ℤ b) (+ℤ_invr a) ∙ zero-*ℤ b ∙ sym (+ℤ_invr (a *ℤ b)))

pub mul_assoc : (a b c : ℤ) → (a *ℤ b) *ℤ c ≡ a *ℤ (b *ℤ c)
mul_assoc a b c = induct (λ a. (a *ℤ b) *ℤ c ≡ a *ℤ (b *ℤ c))
    (ap (λ x. x *ℤ c) (zero-*ℤ b) ∙ zero-*ℤ c ∙ sym (zero-*ℤ (b *ℤ c)))
    (λ k h. ap (λ x. x *ℤ c) (suc_ℤ-*ℤ k b) ∙ add_mul (k *ℤ b) b c ∙ ap (λ x. x +ℤ b *ℤ c) h ∙ sym (suc_ℤ-*ℤ k (b *ℤ c)))
    (λ k h. ap (λ x. x *ℤ c) (pred_ℤ-*ℤ k b) ∙ add_mul (k *ℤ b) (neg_ℤ b) c ∙ ap (λ x. x +ℤ neg_ℤ b *ℤ c) h
    ∙ ap (λ x. k *ℤ (b *ℤ c) +ℤ x) (neg_mul b c) ∙ sym (pred_ℤ-*ℤ k (b *ℤ c)))
    a

pub mul_add : (a b c : ℤ) → a *ℤ (b +ℤ c) ≡ a *ℤ b +ℤ a *ℤ c
mul_add a b c = *ℤ_comm a (b +ℤ c) ∙ add_mul b c a ∙ ap (λ x. x +ℤ c *ℤ a) (*ℤ_comm b a) ∙ ap (λ x. a *ℤ b +ℤ x) (*ℤ_comm c a)

pub one_mul : (a : ℤ) → pos 1 *ℤ a ≡ a
unfolding one
one_mul a = *ℤ_comm (pos 1) a ∙ *ℤ-one a

abbrev pub ℤ_ring : CRing ℤ
ℤ_ring = record {
  add = ◌+ℤ◌;
  mul = ◌*ℤ◌;
  neg = neg_ℤ;
  nil = pos 0;
  unit = pos 1;
  add_assoc = +ℤ_assoc;
  add_comm = +ℤ_comm;
  zero_add = +ℤ_idl;
  neg_add = +ℤ_invl;
  mul_assoc = mul_assoc;
  mul_comm = *ℤ_comm;
  one_mul = one_mul;
  mul_add = mul_add;
}

abs_neg : (n : ℕ) → nat_abs (neg_ℤ (pos n)) ≡ n
abs_neg zero = refl
abs_neg (suc n) = refl

pub abs_mul : (a b : ℤ) → nat_abs (a *ℤ b) ≡ nat_abs a *ℕ nat_abs b
abs_mul (pos m) (pos n) = refl
abs_mul (pos m) (negsuc n) = abs_neg (m *ℕ suc n)
abs_mul (negsuc m) (pos n) = abs_neg (suc m *ℕ n)
abs_mul (negsuc m) (negsuc n) = refl

abs_zero : (a : ℤ) → nat_abs a ≡ 0 → a ≡ pos 0
abs_zero (pos n) h = ap pos h
abs_zero (negsuc n) h = absurd (omega arith)

mul_zero_nat : (a b : ℕ) → a *ℕ b ≡ 0 → 0 < a → b ≡ 0
mul_zero_nat a zero h l = refl
mul_zero_nat a (suc b) h l = absurd (omega (arith, mul-pos l (suc_pos b)))
  where
    suc_pos : (b : ℕ) → 0 < suc b
    suc_pos b = omega arith

-- the absolute value of a nonzero integer
pub nonzero : (a : ℤ) → a ≢ pos 0 → 0 < nat_abs a
nonzero (pos zero) h = absurd (h refl)
nonzero (pos (suc n)) h = omega arith
nonzero (negsuc n) h = omega arith

pub no_divisors : (a b : ℤ) → a ≢ pos 0 → a *ℤ b ≡ pos 0 → b ≡ pos 0
no_divisors a b z h = abs_zero b (mul_zero_nat (nat_abs a) (nat_abs b) (sym (abs_mul a b) ∙ ap nat_abs h) (nonzero a z))

pub cancel : (a b c : ℤ) → a ≢ pos 0 → a *ℤ b ≡ a *ℤ c → b ≡ c
cancel a b c z h =
    add_cancel ℤ_ring (neg_ℤ c) b c
    (ℤ_ring.add_comm (neg_ℤ c) b
    ∙ no_divisors a (b +ℤ neg_ℤ c) z (ℤ_ring.mul_add a b (neg_ℤ c) ∙ ap₂ ◌+ℤ◌ h (mul_neg ℤ_ring a c) ∙ add_neg ℤ_ring (a *ℤ c))
    ∙ sym (ℤ_ring.neg_add c))
