-- Leading minors modulo n of a matrix of whole numbers, and what row operations do to them. n need not be prime, and nothing is divided by.
-- n is the modulus, k the size of the minor, a and b are matrices, r and c a row and a column.
--
--   leading_minor n k a     the determinant of the first k rows and columns, from 0 to n - 1
--   minor_zero              of no rows: 1
--   minor_add_row           a multiple of a row is added to another: the minor stays
--   minor_exchange          two rows change places, and one of them its sign: the minor stays
--   minor_upper             zeros below the diagonal: the next minor is this one times the next word of the diagonal
--   minor_sylvester         the minor of Sylvester's matrix is the resultant
use Rattle.std.specs.Prelude.{◌≡◌, refl, ◌≢◌, List, ℕ, zero, suc, ◌<◌, ◌≤◌, ◌%◌, ◌+◌ as ◌+ℕ◌, ◌*◌ as ◌*ℕ◌, pos}
use Rattle.std.proofs.Common.{sym, ◌∙◌, ap, arith}
use native.Mathlib.Fin
use Rattle.std.proofs.Math.Decide.{ℕ_discrete}
use Rattle.definitions.specs.Polynomials.{deg}
use Rattle.definitions.specs.Expansions.{expansion}
use Rattle.definitions.specs.Resultants.{sylvester, determinant, residue, resultant}
use Rattle.law_polynomials.specs.Words.{residue_reduce, determinant_is}
use Rattle.law_algebra.specs.Determinant.{det, det_cong, det_upper, prod}
use Rattle.law_algebra.specs.Reduction.{reduce, reduce_hom, det_mod}
use Rattle.law_algebra.specs.Form.{Form, det_form}
use Rattle.law_algebra.specs.Index.{skip}
use Rattle.law_algebra.specs.Integers.{ℤ_ring}
use Rattle.law_algebra.specs.Rows.{put, put_same, put_other, add_row, exchange, lin_scale}
use Rattle.law_algebra.specs.Residues.{Res, toRes, Res_ring, mul_mod_r}
use Rattle.law_algebra.specs.Ring.{CRing, add_cancel, add_neg, neg_mul, neg_neg}
use Rattle.law_numbers.specs.Congruence.{Cong}

unfoldable pub leading_minor : ℕ → ℕ → (ℕ → ℕ → ℕ) → ℕ
leading_minor n k a = residue n (determinant k (λ r c. pos (a r c)))

module _ {R : Type 0} (𝓡 : CRing R) where
  open 𝓡 use {mul as ◌*◌, neg as -◌, unit as 𝟙, mul_assoc, mul_comm, one_mul}

  infixl 70 ◌*◌
  infix 75 -◌
  prod_last : (n : ℕ) (f : ℕ → R) → prod 𝓡 (suc n) f ≡ prod 𝓡 n f * f n
  prod_last zero f = mul_comm (f 0) 𝟙
  prod_last (suc n) f = ap (λ x. f 0 * x) (prod_last n (λ i. f (suc i))) ∙ sym (mul_assoc (f 0) (prod 𝓡 n (λ i. f (suc i))) (f (suc n)))

  -- the row i comes to j, and the row j, its sign changed, to i
  exchange_signed : {m n : ℕ} {D : (ℕ → ℕ → R) → R} → Form 𝓡 m n D → (i j : ℕ) → i < m → j < m → i ≢ j → (a b : ℕ → ℕ → R)
      → ((c : ℕ) → c < n → b j c ≡ a i c) → ((c : ℕ) → c < n → b i c ≡ - a j c)
      → ((r c : ℕ) → r < m → c < n → r ≢ i → r ≢ j → b r c ≡ a r c) → D b ≡ D a
  exchange_signed {m} {n} {D} F i j p q z a b hj hi h =
      F.cong b w (λ r c u v. go r c u v (ℕ_discrete r i) (ℕ_discrete r j))
      ∙ lin_scale 𝓡 F i p (- 𝟙) (a j) (λ r. put 𝓡 j (a i) a (skip i r))
      ∙ ap (λ x. (- 𝟙) * x) (exchange 𝓡 F i j p q z a) ∙ simp (neg_mul 𝓡, one_mul, neg_neg 𝓡)
    where
      minus : ℕ → R
      minus c = (- 𝟙) * a j c

      w : ℕ → ℕ → R
      w = put 𝓡 i minus (put 𝓡 j (a i) a)

      go : (r c : ℕ) → r < m → c < n → Dec (r ≡ i) → Dec (r ≡ j) → b r c ≡ w r c
      go r c u v (yes e) d =
          ap (λ (k : ℕ). b k c) e ∙ hi c v ∙ sym (neg_mul 𝓡 𝟙 (a j c) ∙ ap (λ x. - x) (one_mul (a j c)))
          ∙ sym (ap (λ (v : ℕ → R). v c) (put_same 𝓡 i minus (put 𝓡 j (a i) a))) ∙ ap (λ (k : ℕ). w k c) (sym e)
      go r c u v (no e) (yes d) =
          ap (λ (k : ℕ). b k c) d ∙ hj c v
          ∙ sym (ap (λ (v : ℕ → R). v c) (put_other 𝓡 i minus (put 𝓡 j (a i) a) j (λ y. z (sym y)) ∙ put_same 𝓡 j (a i) a))
          ∙ ap (λ (k : ℕ). w k c) (sym d)
      go r c u v (no e) (no d) =
          h r c u v e d ∙ sym (ap (λ (v : ℕ → R). v c) (put_other 𝓡 i minus (put 𝓡 j (a i) a) r e ∙ put_other 𝓡 j (a i) a r d))

-- modulo m + 1 a leading minor is a determinant over the ring of residues
abbrev residues : (m : ℕ) → (ℕ → ℕ → ℕ) → ℕ → ℕ → Res m
residues m a r c = toRes m (a r c)

minor_is : (m k : ℕ) (a : ℕ → ℕ → ℕ) → leading_minor (suc m) k a ≡ (det (Res_ring m) k (residues m a)).0
unfolding leading_minor
minor_is m k a =
    residue_reduce m (determinant k (λ r c. pos (a r c)))
    ∙ ap (λ (z : Res m). z.0) (ap (reduce m) (determinant_is k (λ r c. pos (a r c))) ∙ det_mod m k (λ r c. pos (a r c)))

toRes_sum : (m y x z : ℕ) → toRes m (y +ℕ x *ℕ z) ≡ (Res_ring m).add ((Res_ring m).mul (toRes m x) (toRes m z)) (toRes m y)
toRes_sum m y x z =
    (reduce_hom m).h_add (pos y) (pos (x *ℕ z)) ∙ (Res_ring m).add_comm (toRes m y) (toRes m (x *ℕ z))
    ∙ ap (λ (u : Res m). (Res_ring m).add u (toRes m y)) ((reduce_hom m).h_mul (pos x) (pos z))

toRes_neg : (m y x : ℕ) → Cong (suc m) (y +ℕ x) 0 → toRes m x ≡ (Res_ring m).neg (toRes m y)
toRes_neg m y x h =
    add_cancel (Res_ring m) (toRes m y) (toRes m x) ((Res_ring m).neg (toRes m y))
    (sym ((reduce_hom m).h_add (pos y) (pos x)) ∙ Fin.val_path h.same ∙ sym (add_neg (Res_ring m) (toRes m y)))

pub minor_zero : (n : ℕ) (a : ℕ → ℕ → ℕ) → leading_minor n 0 a ≡ 1 % n
unfolding leading_minor expansion
minor_zero n a = refl

pub minor_add_row : (n k i j x : ℕ) → 1 ≤ n → i < k → j < k → i ≢ j → (a b : ℕ → ℕ → ℕ)
    → ((c : ℕ) → c < k → Cong n (b j c) (a j c +ℕ x *ℕ a i c)) → ((r c : ℕ) → r < k → c < k → r ≢ j → b r c ≡ a r c)
    → leading_minor n k b ≡ leading_minor n k a
minor_add_row zero k i j x one p q z a b h g = absurd (omega arith)
minor_add_row (suc m) k i j x one p q z a b h g =
    minor_is m k b
    ∙ ap (λ (y : Res m). y.0) (add_row (Res_ring m) (det_form (Res_ring m) k) i j p q z (toRes m x) (residues m a) (residues m b)
    (λ c l. Fin.val_path (h c l).same ∙ toRes_sum m (a j c) x (a i c)) (λ r c u v w. ap (toRes m) (g r c u v w)))
    ∙ sym (minor_is m k a)

pub minor_exchange : (n k i j : ℕ) → 1 ≤ n → i < k → j < k → i ≢ j → (a b : ℕ → ℕ → ℕ)
    → ((c : ℕ) → c < k → b j c ≡ a i c) → ((c : ℕ) → c < k → Cong n (a j c +ℕ b i c) 0)
    → ((r c : ℕ) → r < k → c < k → r ≢ i → r ≢ j → b r c ≡ a r c) → leading_minor n k b ≡ leading_minor n k a
minor_exchange zero k i j one p q z a b hj hi h = absurd (omega arith)
minor_exchange (suc m) k i j one p q z a b hj hi h =
    minor_is m k b
    ∙ ap (λ (y : Res m). y.0) (exchange_signed (Res_ring m) (det_form (Res_ring m) k) i j p q z (residues m a) (residues m b)
    (λ c l. ap (toRes m) (hj c l)) (λ c l. toRes_neg m (a j c) (b i c) (hi c l)) (λ r c u v w x. ap (toRes m) (h r c u v w x)))
    ∙ sym (minor_is m k a)

pub minor_upper : (n k : ℕ) → 1 ≤ n → (a : ℕ → ℕ → ℕ) → ((r c : ℕ) → r < suc k → c < r → a r c ≡ 0)
    → leading_minor n (suc k) a ≡ (leading_minor n k a *ℕ a k k) % n
minor_upper zero k one a h = absurd (omega arith)
minor_upper (suc m) k one a h =
    minor_is m (suc k) a
    ∙ ap (λ (y : Res m). y.0) (det_upper (Res_ring m) (suc k) (residues m a) (λ r c p q. ap (toRes m) (h r c p q))
    ∙ prod_last (Res_ring m) k (λ i. residues m a i i)
    ∙ ap (λ (y : Res m). (Res_ring m).mul y (toRes m (a k k)))
    (sym (det_upper (Res_ring m) k (residues m a) (λ r c p q. ap (toRes m) (h r c (omega arith) q)))))
    ∙ ap (λ y. (y *ℕ (a k k % suc m)) % suc m) (sym (minor_is m k a)) ∙ mul_mod_r (leading_minor (suc m) k a) (a k k) (suc m)

pub minor_sylvester : (n : ℕ) (f g : List ℕ) (a : ℕ → ℕ → ℕ)
    → ((r c : ℕ) → r < deg f +ℕ deg g → c < deg f +ℕ deg g → pos (a r c) ≡ sylvester f g r c)
    → leading_minor n (deg f +ℕ deg g) a ≡ resultant n f g
unfolding leading_minor resultant
minor_sylvester n f g a h =
    ap (residue n) (determinant_is (deg f +ℕ deg g) (λ r c. pos (a r c))
    ∙ det_cong ℤ_ring (deg f +ℕ deg g) (λ r c. pos (a r c)) (sylvester f g) h
    ∙ sym (determinant_is (deg f +ℕ deg g) (sylvester f g)))
