-- The ring Z/(m + 1): the numbers below m + 1, with the operations modulo m + 1.
--
--   mul_mod, mul_mod_l, mul_mod_r   a product modulo n depends on its factors modulo n
--   Res m, toRes m a                the residues, and the residue of a
--   Res_ring m                      their ring
--
-- Letters: a, b, c are numbers or residues; n a modulus; m a modulus less 1.
use Rattle.std.specs.Prelude.{◌≡◌}
use Rattle.std.proofs.Common.{sym, ◌∙◌, ap, ap₂, mod-lt, mod-eq_of_lt, zero-lt-suc, add_assoc, add_comm, mul_assoc, mul_comm, mul-add, one-mul, le_of_lt, sub-add_cancel, arith}
use Prim.Native.Nat.{ℕ, suc, ◌%◌, ◌+◌, ◌*◌, ◌/◌, ◌-◌, Fin}
use Rattle.std.proofs.Math.Nat.{mod-add-mod, add-mod-mod, add-mul-mod_self_left, div-add-mod, mod-mod, mod_self}
use Rattle.law_algebra.specs.Ring.{CRing}

spread : (n q r s t : ℕ) → (n * q + r) * (n * s + t) ≡ r * t + n * (q * (n * s + t) + r * s)
spread n q r s t = omega arith

-- a product modulo n depends on its factors modulo n
pub mul_mod : (a b n : ℕ) → (a * b) % n ≡ ((a % n) * (b % n)) % n
mul_mod a b n =
    ap (λ x. x % n) (ap₂ ◌*◌ (sym (div-add-mod a n)) (sym (div-add-mod b n)) ∙ spread n (a / n) (a % n) (b / n) (b % n))
    ∙ add-mul-mod_self_left ((a % n) * (b % n)) n ((a / n) * (n * (b / n) + b % n) + (a % n) * (b / n))

pub mul_mod_l : (a b n : ℕ) → (a % n * b) % n ≡ (a * b) % n
mul_mod_l a b n = mul_mod (a % n) b n ∙ ap (λ x. (x * (b % n)) % n) (mod-mod a n) ∙ sym (mul_mod a b n)

pub mul_mod_r : (a b n : ℕ) → (a * (b % n)) % n ≡ (a * b) % n
mul_mod_r a b n = mul_mod a (b % n) n ∙ ap (λ x. ((a % n) * x) % n) (mod-mod b n) ∙ sym (mul_mod a b n)

module _ (m : ℕ) where
  abbrev pub Res : Type 0
  Res = Fin (suc m)

  abbrev pub toRes : ℕ → Res
  toRes a = (a % suc m, mod-lt a (zero-lt-suc m))

  pub neg_ok : (a : Res) → ((suc m - a.0) % suc m + a.0) % suc m ≡ 0 % suc m
  neg_ok a =
      mod-add-mod (suc m - a.0) (suc m) a.0 ∙ ap (λ x. x % suc m) (sub-add_cancel (le_of_lt a.1))
      ∙ mod_self (suc m) ∙ sym (mod-eq_of_lt (zero-lt-suc m))

  abbrev pub Res_ring : CRing Res
  Res_ring = record {
    add = λ a b. toRes (a.0 + b.0);
    mul = λ a b. toRes (a.0 * b.0);
    neg = λ a. toRes (suc m - a.0);
    nil = toRes 0;
    unit = toRes 1;
    add_assoc = λ a b c. native.Mathlib.Fin.val_path (simp (mod-add-mod, add-mod-mod, add_assoc));
    add_comm = λ a b. native.Mathlib.Fin.val_path (ap (λ x. x % suc m) (add_comm a.0 b.0));
    zero_add = λ a. native.Mathlib.Fin.val_path (mod-add-mod 0 (suc m) a.0 ∙ ap (λ x. x % suc m) (omega arith) ∙ mod-eq_of_lt a.1);
    neg_add = λ a. native.Mathlib.Fin.val_path (neg_ok a);
    mul_assoc = λ a b c. native.Mathlib.Fin.val_path (simp (mul_mod_l, mul_mod_r, mul_assoc));
    mul_comm = λ a b. native.Mathlib.Fin.val_path (ap (λ x. x % suc m) (mul_comm a.0 b.0));
    one_mul = λ a. native.Mathlib.Fin.val_path (mul_mod_l 1 a.0 (suc m) ∙ ap (λ x. x % suc m) (one-mul a.0) ∙ mod-eq_of_lt a.1);
    mul_add = λ a b c. native.Mathlib.Fin.val_path (simp (mul_mod_r, mod-add-mod, add-mod-mod, mul-add));
  }
