-- Maps of rings that reduce: of the integers to Z/(m + 1), and of Z/(m + 1) to Z/(k + 1) where k + 1 divides m + 1.
--
--   ext 𝓢 ν        a map ν of the numbers, carried on to the integers; a map of rings if ν keeps sums, products and 1 (ι_hom)
--   reduce m        the integers modulo m + 1
--   lower m k       Z/(m + 1) modulo k + 1
--   det_mod         a determinant of integers, reduced
--
-- Letters: a, b are numbers, integers or residues; m, k moduli less 1.
use Rattle.std.specs.Prelude.{◌≡◌, refl, Bool, true, false, not, cond, ℕ, zero, suc, ◌<◌, ◌≤◌, ◌+◌ as ◌+ℕ◌, ◌-◌ as ◌-ℕ◌, ◌*◌ as ◌*ℕ◌, T, ltb, ℤ, pos, negsuc, neg_ℤ, ◌+ℤ◌, ◌*ℤ◌}
use Rattle.std.proofs.Common.{sym, ◌∙◌, ap, subst, arith, ltb→lt, nltb→le}
use Rattle.std.specs.Int.{◌∣◌}
use native.Mathlib.Fin
use Rattle.std.proofs.Math.Nat.{mod-add-mod, add-mod-mod, mod-mod_of_dvd}
use Rattle.std.proofs.Math.IntN.{sub_ℕ}
use Rattle.law_algebra.specs.Determinant.{det, det_hom}
use Rattle.law_algebra.specs.Integers.{ℤ_ring}
use Rattle.law_algebra.specs.Residues.{Res, toRes, Res_ring, mul_mod}
use Rattle.law_algebra.specs.Ring.{CRing, add_zero, add_left_comm, add_neg, add_cancel}
use Rattle.law_algebra.specs.Ring.{mul_neg, neg_neg, neg_mul, neg_of_add, Hom, neg_zero}

-- a map of the numbers, carried on to the integers
abbrev pub ext : {S : Type 0} → CRing S → (ℕ → S) → ℤ → S
ext 𝓢 ν (pos n) = ν n
ext 𝓢 ν (negsuc n) = 𝓢.neg (ν (suc n))

module _ {S : Type 0} (𝓢 : CRing S) (ν : ℕ → S) (ν_add : (a b : ℕ) → ν (a +ℕ b) ≡ 𝓢.add (ν a) (ν b))
    (ν_mul : (a b : ℕ) → ν (a *ℕ b) ≡ 𝓢.mul (ν a) (ν b)) (ν_one : ν 1 ≡ 𝓢.unit) where
  open 𝓢 use {add as ◌+◌, mul as ◌*◌, neg as -◌, nil as 𝟘, add_comm}

  infixl 65 ◌+◌
  infixl 70 ◌*◌
  infix 75 -◌
  abbrev ι : ℤ → S
  ι = ext 𝓢 ν

  ν_zero : ν 0 ≡ 𝟘
  ν_zero = add_cancel 𝓢 (ν 0) (ν 0) 𝟘 (sym (ν_add 0 0) ∙ sym (add_zero 𝓢 (ν 0)))

  ι_neg : (a : ℤ) → ι (neg_ℤ a) ≡ - ι a
  ι_neg (pos zero) = ν_zero ∙ sym (neg_zero 𝓢) ∙ ap (λ x. - x) (sym ν_zero)
  ι_neg (pos (suc n)) = refl
  ι_neg (negsuc n) = sym (neg_neg 𝓢 (ν (suc n)))

  ν_sub : (a b : ℕ) → b ≤ a → ν (a -ℕ b) ≡ ν a + (- ν b)
  ν_sub a b l =
      add_cancel 𝓢 (ν b) (ν (a -ℕ b)) (ν a + (- ν b))
      (sym (ν_add b (a -ℕ b)) ∙ ap ν (add_sub a b l) ∙ sym (add_left_comm 𝓢 (ν b) (ν a) (- ν b) ∙ simp (add_neg 𝓢, add_zero 𝓢)))
    where
      add_sub : (a b : ℕ) → b ≤ a → b +ℕ (a -ℕ b) ≡ a
      add_sub a b l = omega arith

  ι_sub : (a b : ℕ) → ι (sub_ℕ a b) ≡ ν a + (- ν b)
  ι_sub a b = go (ltb a b) refl
    where
      suc_sub : a < b → suc (b -ℕ suc a) ≡ b -ℕ a
      suc_sub l = omega arith

      go : (t : Bool) → ltb a b ≡ t → ι (cond t (negsuc (b -ℕ suc a)) (pos (a -ℕ b))) ≡ ν a + (- ν b)
      go true h =
          let l = ltb→lt a b (subst T (sym h) tt) in
          ap (λ n. - ν n) (suc_sub l) ∙ ap (λ x. - x) (ν_sub b a (omega arith)) ∙ simp (neg_of_add 𝓢, neg_neg 𝓢, add_comm)
      go false h = ν_sub a b (nltb→le a b (subst (λ t. T (not t)) (sym h) tt))

  ι_add : (a b : ℤ) → ι (a +ℤ b) ≡ ι a + ι b
  ι_add (pos a) (pos b) = ν_add a b
  ι_add (pos a) (negsuc b) = ι_sub a (suc b)
  ι_add (negsuc a) (pos b) = ι_sub b (suc a) ∙ add_comm (ν b) (- ν (suc a))
  ι_add (negsuc a) (negsuc b) = ap (λ n. - ν n) (two_suc a b) ∙ ap (λ x. - x) (ν_add (suc a) (suc b)) ∙ neg_of_add 𝓢 (ν (suc a)) (ν (suc b))
    where
      two_suc : (a b : ℕ) → suc (suc (a +ℕ b)) ≡ suc a +ℕ suc b
      two_suc a b = omega arith

  ι_mul : (a b : ℤ) → ι (a *ℤ b) ≡ ι a * ι b
  ι_mul (pos a) (pos b) = ν_mul a b
  ι_mul (pos a) (negsuc b) = ι_neg (pos (a *ℕ suc b)) ∙ ap (λ x. - x) (ν_mul a (suc b)) ∙ sym (mul_neg 𝓢 (ν a) (ν (suc b)))
  ι_mul (negsuc a) (pos b) = ι_neg (pos (suc a *ℕ b)) ∙ ap (λ x. - x) (ν_mul (suc a) b) ∙ sym (neg_mul 𝓢 (ν (suc a)) (ν b))
  ι_mul (negsuc a) (negsuc b) = ν_mul (suc a) (suc b) ∙ sym (simp (neg_mul 𝓢, mul_neg 𝓢, neg_neg 𝓢))

  pub ι_hom : Hom ℤ_ring 𝓢 (ext 𝓢 ν)
  ι_hom = record { h_add = ι_add; h_mul = ι_mul; h_neg = ι_neg; h_zero = ν_zero; h_one = ν_one }

module _ (m : ℕ) where
  toRes_add : (a b : ℕ) → toRes m (a +ℕ b) ≡ (Res_ring m).add (toRes m a) (toRes m b)
  toRes_add a b = Fin.val_path (simp (mod-add-mod, add-mod-mod))

  toRes_mul : (a b : ℕ) → toRes m (a *ℕ b) ≡ (Res_ring m).mul (toRes m a) (toRes m b)
  toRes_mul a b = Fin.val_path (mul_mod a b (suc m))

  abbrev pub reduce : ℤ → Res m
  reduce = ext (Res_ring m) (toRes m)

  pub reduce_hom : Hom ℤ_ring (Res_ring m) reduce
  reduce_hom = ι_hom (Res_ring m) (toRes m) toRes_add toRes_mul refl

  pub det_mod : (n : ℕ) (a : ℕ → ℕ → ℤ) → reduce (det ℤ_ring n a) ≡ det (Res_ring m) n (λ r c. reduce (a r c))
  det_mod = det_hom ℤ_ring (Res_ring m) reduce reduce_hom

abbrev pub lower : (m k : ℕ) → Res m → Res k
lower m k a = toRes k a.0

-- k + 1 divides m + 1
module _ (m k : ℕ) (divides : suc k ∣ suc m) where
  -- the residue of a number, through Z/(m + 1)
  pub lower_toRes : (a : ℕ) → lower m k (toRes m a) ≡ toRes k a
  lower_toRes a = Fin.val_path (mod-mod_of_dvd (suc k) a divides)

  lower_add : (a b : Res m) → lower m k ((Res_ring m).add a b) ≡ (Res_ring k).add (lower m k a) (lower m k b)
  lower_add a b = lower_toRes (a.0 +ℕ b.0) ∙ toRes_add k a.0 b.0

  pub lower_hom : Hom (Res_ring m) (Res_ring k) (lower m k)
  lower_hom = record {
    h_add = lower_add;
    h_mul = λ a b. lower_toRes (a.0 *ℕ b.0) ∙ toRes_mul k a.0 b.0;
    h_neg = λ a.
        add_cancel (Res_ring k) (lower m k a) (lower m k ((Res_ring m).neg a)) ((Res_ring k).neg (lower m k a))
        (sym (lower_add a ((Res_ring m).neg a)) ∙ ap (lower m k) (add_neg (Res_ring m) a) ∙ lower_toRes 0
        ∙ sym (add_neg (Res_ring k) (lower m k a)));
    h_zero = lower_toRes 0;
    h_one = lower_toRes 1;
  }

  pub lower_reduce : (z : ℤ) → lower m k (reduce m z) ≡ reduce k z
  lower_reduce (pos a) = lower_toRes a
  lower_reduce (negsuc a) = lower_hom.h_neg (toRes m (suc a)) ∙ ap (Res_ring k).neg (lower_toRes (suc a))
