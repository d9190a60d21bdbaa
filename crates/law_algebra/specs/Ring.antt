-- Commutative rings as a flat record of operations and laws, what follows from the laws, and maps between rings. Every theorem of this
-- crate takes its ring 𝓡 first.
--
--   CRing R         a commutative ring on the type R
--   pw x n          x to the n-th power
--   Hom 𝓡 𝓢 φ      φ is a map of rings
--
-- Letters: a, b, c, x are elements of R; 𝟘 and 𝟙 are the ring's zero and one.
use Rattle.std.specs.Prelude.{◌≡◌, refl, ℕ, zero, suc}
use Rattle.std.proofs.Common.{sym, ◌∙◌, ap, ap₂}

pub record CRing (R : Type 0) : Type 0 where
  pub add : R → R → R
  pub mul : R → R → R
  pub neg : R → R
  pub nil : R
  pub unit : R
  pub add_assoc : (a b c : R) → add (add a b) c ≡ add a (add b c)
  pub add_comm : (a b : R) → add a b ≡ add b a
  pub zero_add : (a : R) → add nil a ≡ a
  pub neg_add : (a : R) → add (neg a) a ≡ nil
  pub mul_assoc : (a b c : R) → mul (mul a b) c ≡ mul a (mul b c)
  pub mul_comm : (a b : R) → mul a b ≡ mul b a
  pub one_mul : (a : R) → mul unit a ≡ a
  pub mul_add : (a b c : R) → mul a (add b c) ≡ add (mul a b) (mul a c)

module _ {R : Type 0} (𝓡 : CRing R) where
  open 𝓡 use {
    add as ◌+◌,
    mul as ◌*◌,
    neg as -◌,
    nil as 𝟘,
    unit as 𝟙,
    add_assoc,
    add_comm,
    zero_add,
    neg_add,
    mul_assoc,
    mul_comm,
    one_mul,
    mul_add,
  }

  infixl 65 ◌+◌
  infixl 70 ◌*◌
  infix 75 -◌
  pub add_zero : (a : R) → a + 𝟘 ≡ a
  add_zero a = add_comm a 𝟘 ∙ zero_add a

  pub add_neg : (a : R) → a + (- a) ≡ 𝟘
  add_neg a = add_comm a (- a) ∙ neg_add a

  pub add_left_comm : (a b c : R) → a + (b + c) ≡ b + (a + c)
  add_left_comm a b c = sym (add_assoc a b c) ∙ ap (λ x. x + c) (add_comm a b) ∙ add_assoc b a c

  pub mul_left_comm : (a b c : R) → a * (b * c) ≡ b * (a * c)
  mul_left_comm a b c = sym (mul_assoc a b c) ∙ ap (λ x. x * c) (mul_comm a b) ∙ mul_assoc b a c

  pub add_mul : (a b c : R) → (a + b) * c ≡ a * c + b * c
  add_mul a b c = mul_comm (a + b) c ∙ mul_add c a b ∙ simp mul_comm

  pub add_cancel : (a b c : R) → a + b ≡ a + c → b ≡ c
  add_cancel a b c h = sym (zero_add b) ∙ ap (λ x. x + b) (sym (neg_add a)) ∙ add_assoc (- a) a b ∙ ap (λ x. (- a) + x) h
      ∙ sym (add_assoc (- a) a c) ∙ ap (λ x. x + c) (neg_add a) ∙ zero_add c

  pub mul_zero : (a : R) → a * 𝟘 ≡ 𝟘
  mul_zero a = add_cancel (a * 𝟘) (a * 𝟘) 𝟘 (sym (mul_add a 𝟘 𝟘) ∙ ap (λ x. a * x) (zero_add 𝟘) ∙ sym (add_zero (a * 𝟘)))

  pub mul_neg : (a b : R) → a * (- b) ≡ - (a * b)
  mul_neg a b = add_cancel (a * b) (a * (- b)) (- (a * b)) (sym (mul_add a b (- b)) ∙ ap (λ x. a * x) (add_neg b) ∙ mul_zero a
      ∙ sym (add_neg (a * b)))

  pub neg_neg : (a : R) → - (- a) ≡ a
  neg_neg a = add_cancel (- a) (- (- a)) a (add_neg (- a) ∙ sym (neg_add a))

  pub neg_mul : (a b : R) → (- a) * b ≡ - (a * b)
  neg_mul a b = mul_comm (- a) b ∙ mul_neg b a ∙ ap (λ x. - x) (mul_comm b a)

  pub neg_of_add : (a b : R) → - (a + b) ≡ (- a) + (- b)
  neg_of_add a b = add_cancel (a + b) (- (a + b)) ((- a) + (- b))
      (add_neg (a + b) ∙ sym (simp (add_assoc, add_left_comm b (- a) (- b), add_neg b, add_zero, add_neg a)))

  pub add_neg_cancel : (a b : R) → a + ((- a) + b) ≡ b
  add_neg_cancel a b = sym (add_assoc a (- a) b) ∙ ap (λ x. x + b) (add_neg a) ∙ zero_add b

  pub neg_add_cancel : (a b : R) → (- a) + (a + b) ≡ b
  neg_add_cancel a b = sym (add_assoc (- a) a b) ∙ ap (λ x. x + b) (neg_add a) ∙ zero_add b

  pub neg_zero : - 𝟘 ≡ 𝟘
  neg_zero = sym (add_zero (- 𝟘)) ∙ neg_add 𝟘

  pub zero_mul : (a : R) → 𝟘 * a ≡ 𝟘
  zero_mul a = mul_comm 𝟘 a ∙ mul_zero a

  pub mul_one : (a : R) → a * 𝟙 ≡ a
  mul_one a = mul_comm a 𝟙 ∙ one_mul a

  abbrev pub pw : R → ℕ → R
  pw x zero = 𝟙
  pw x (suc n) = x * pw x n

  pub pw_one : (x : R) → x ≡ 𝟙 → (k : ℕ) → pw x k ≡ 𝟙
  pw_one x h zero = refl
  pw_one x h (suc k) = ap₂ ◌*◌ h (pw_one x h k) ∙ one_mul 𝟙

-- a map of rings
pub record Hom {R S : Type 0} (𝓡 : CRing R) (𝓢 : CRing S) (φ : R → S) : Type 0 where
  pub h_add : (a b : R) → φ (𝓡.add a b) ≡ 𝓢.add (φ a) (φ b)
  pub h_mul : (a b : R) → φ (𝓡.mul a b) ≡ 𝓢.mul (φ a) (φ b)
  pub h_neg : (a : R) → φ (𝓡.neg a) ≡ 𝓢.neg (φ a)
  pub h_zero : φ 𝓡.nil ≡ 𝓢.nil
  pub h_one : φ 𝓡.unit ≡ 𝓢.unit
