-- The constants reached by two polynomials, and the reduced resultant D: at most one, it divides the resultant, and the law of products for
-- D.
--
--   reached_same, reached_cong       c, f and g count modulo n only
--   words_finite, spell, to_ring, from_ring    words as polynomials over Z/(m + 1) and back
--   Of_length, resultant_cofactors   multipliers of given lengths; those of the resultant, e and d words long
--   only_any, all_any, reduced_by    the bound c < n is not needed
--   reached_multiple, reduced_from   multiples are reached, so it is enough to reach D
--   reduced_cong, reduced_unique, reduced_product, reduced_divides
--
-- Letters: m is n less 1; u, v are multipliers; c is a constant; D, E, A, B, P are reduced resultants.
use Rattle.std.specs.Prelude.{◌≡◌, refl, List, ℕ, zero, suc, ◌<◌, ◌≤◌, ◌%◌, ◌/◌, ◌+◌ as ◌+ℕ◌, ◌*◌ as ◌*ℕ◌, pos, length}
use Rattle.std.proofs.Common.{sym, ◌∙◌, ap, ap₂, subst, mod-lt, mod-eq_of_lt, mul_comm, arith}
use Rattle.std.proofs.Math.Path.{fun_ext}
use Rattle.std.specs.Int.{◌∣◌}
use native.Mathlib.Fin
use Rattle.std.proofs.Math.Decide.{dec_lt}
use Rattle.std.proofs.Math.Nat.{mod-mod, dvd_refl, dvd_antisymm, dvd-mod_iff, mul-div_cancel'}
use Rattle.std.proofs.Math.ListN.{get_or-eq_default}
use Rattle.definitions.specs.Polynomials.{coef, deg, convolve, tabulate, product, constant}
use Rattle.definitions.specs.Resultants.{resultant, Combination, Reached, Reduced}
use Rattle.law_algebra.specs.Cofactors.{cofactors}
use Rattle.law_algebra.specs.Ideal.{Combines, of_left, of_right, of_both, multiple}
use Rattle.law_algebra.specs.Reduction.{reduce_hom}
use Rattle.law_algebra.specs.Residues.{Res, toRes, Res_ring}
use Rattle.law_algebra.specs.SentLaws.{Rs}
use Rattle.law_algebra.specs.Series.{Finite, const_mul, conv, Short, const, fin_const}
use Rattle.law_polynomials.specs.Words.{words, words_out, words_product, convolve_is, coef_tabulate, length_tabulate, resultant_is}
use Rattle.law_polynomials.specs.Words.{words_cong}

-- only c modulo n matters
pub reached_same : {n : ℕ} {f g : List ℕ} {c c' : ℕ} → c % n ≡ c' % n → Reached n f g c → Reached n f g c'
reached_same {n} {f} {g} {c} {c'} h r = record { u = r.u; v = r.v; combination = record { sum = λ k. r.combination.sum k ∙ go k } }
  where
    go : (k : ℕ) → constant c k % n ≡ constant c' k % n
    go zero = h
    go (suc k) = refl

-- u f + v g is the constant c modulo n, u of p words and v of q
pub record Of_length (n : ℕ) (f g : List ℕ) (c p q : ℕ) : Type 0 where
  pub u : List ℕ
  pub v : List ℕ
  pub length_u : length u ≡ p
  pub length_v : length v ≡ q
  pub combination : Combination n f g u v c

module _ (m : ℕ) where
  open Res_ring m use {add as ◌+◌, mul as ◌*◌}

  infixl 65 ◌+◌
  infixl 70 ◌*◌
  pub words_short : (f : List ℕ) → Short (Res_ring m) (length f) (words m f)
  words_short f = record { out = λ k l. ap (toRes m) (get_or-eq_default f 0 {n = k} l) }

  pub words_finite : (f : List ℕ) → Finite (Res_ring m) (words m f)
  words_finite f = record { size = length f; short = words_short f }

  -- a polynomial's words
  abbrev pub spell : ℕ → (ℕ → Res m) → List ℕ
  spell n u = tabulate n (λ k. (u k).0)

  pub words_spell : (n : ℕ) (u : ℕ → Res m) → Short (Res_ring m) n u → (k : ℕ) → words m (spell n u) k ≡ u k
  words_spell n u z k = go (dec_lt k n)
    where
      go : Dec (k < n) → words m (spell n u) k ≡ u k
      go (yes l) = ap (toRes m) (coef_tabulate n (λ k. (u k).0) k l) ∙ Fin.val_path (mod-eq_of_lt (u k).1)
      go (no l) =
          ap (toRes m) (get_or-eq_default (spell n u) 0 {n = k} (omega (arith, length_tabulate n (λ k. (u k).0))))
          ∙ sym (z.out k (omega arith))

  both_is : (u f v g : List ℕ) (k : ℕ) → toRes m (convolve (coef u) (coef f) k +ℕ convolve (coef v) (coef g) k) ≡ conv (Res_ring m)
      (words m u) (words m f) k + conv (Res_ring m) (words m v) (words m g) k
  both_is u f v g k =
      (reduce_hom m).h_add (pos (convolve (coef u) (coef f) k)) (pos (convolve (coef v) (coef g) k))
      ∙ ap₂ ◌+◌ (convolve_is m (coef u) (coef f) k) (convolve_is m (coef v) (coef g) k)

  pub constant_is : (c k : ℕ) → toRes m (constant c k) ≡ const (Res_ring m) (toRes m c) k
  constant_is c zero = refl
  constant_is c (suc k) = refl

  pub to_ring : {f g : List ℕ} {c : ℕ} → Reached (suc m) f g c
      → Combines (Res_ring m) (words m f) (words m g) (const (Res_ring m) (toRes m c))
  to_ring {f} {g} {c} r = record {
    u = words m r.u;
    v = words m r.v;
    fin_u = words_finite r.u;
    fin_v = words_finite r.v;
    eq = fun_ext (λ k. sym (both_is r.u f r.v g k) ∙ Fin.val_path (r.combination.sum k) ∙ constant_is c k);
  }

  pub spelled : (f g : List ℕ) (c p q : ℕ) (u v : ℕ → Res m) → Short (Res_ring m) p u → Short (Res_ring m) q v
      → ((k : ℕ) → conv (Res_ring m) u (words m f) k + conv (Res_ring m) v (words m g) k ≡ const (Res_ring m) (toRes m c) k)
      → (k : ℕ) → (convolve (coef (spell p u)) (coef f) k +ℕ convolve (coef (spell q v)) (coef g) k) % suc m ≡ constant c k % suc m
  spelled f g c p q u v zu zv e k =
      ap (λ (x : Res m). x.0) (both_is (spell p u) f (spell q v) g k
      ∙ ap₂ (λ (a b : ℕ → Res m). conv (Res_ring m) a (words m f) k + conv (Res_ring m) b (words m g) k) (fun_ext (words_spell p u zu))
      (fun_ext (words_spell q v zv))
      ∙ e k ∙ sym (constant_is c k))

  pub from_ring : {f g : List ℕ} {c : ℕ} → Combines (Res_ring m) (words m f) (words m g) (const (Res_ring m) (toRes m c))
      → Reached (suc m) f g c
  from_ring {f} {g} {c} r =
      record {
        u = spell r.fin_u.size r.u;
        v = spell r.fin_v.size r.v;
        combination = record {
          sum = spelled f g c r.fin_u.size r.fin_v.size r.u r.v r.fin_u.short r.fin_v.short
              (λ k. ap (λ (x : ℕ → Res m). x k) r.eq);
        };
      }

  product_is : (f g : List ℕ) → words m (product (suc m) f g) ≡ conv (Res_ring m) (words m f) (words m g)
  product_is f g = fun_ext (words_product m f g)

  reach_left : (f g h : List ℕ) (c : ℕ) → Reached (suc m) (product (suc m) f g) h c → Reached (suc m) f h c
  reach_left f g h c r =
      from_ring (of_left (Res_ring m) (words_finite g) (rw (product_is f g) at (to_ring r)))

  reach_right : (f g h : List ℕ) (c : ℕ) → Reached (suc m) (product (suc m) f g) h c → Reached (suc m) g h c
  reach_right f g h c r =
      from_ring (of_right (Res_ring m) (words_finite f) (rw (product_is f g) at (to_ring r)))

  reach_both : (f g h : List ℕ) (a b : ℕ) → Reached (suc m) f h a → Reached (suc m) g h b → Reached (suc m) (product (suc m) f g) h (a *ℕ b)
  reach_both f g h a b r s =
      from_ring (rw (product_is f g, (reduce_hom m).h_mul (pos a) (pos b), ← const_mul (Res_ring m) (toRes m a) (toRes m b))
      (of_both (Res_ring m) (words_finite f) (words_finite g) (words_finite h) (to_ring r) (to_ring s)))

  -- u f + v g is the resultant, u of deg g words and v of deg f
  pub resultant_cofactors : (f g : List ℕ) → 1 ≤ deg f +ℕ deg g → Of_length (suc m) f g (resultant (suc m) f g) (deg g) (deg f)
  resultant_cofactors f g l =
      let c = cofactors (Res_ring m) (deg f) (deg g) (words m f) (words m g) (words_out m f) (words_out m g) l in
      record {
        u = spell (deg g) c.u;
        v = spell (deg f) c.v;
        length_u = length_tabulate (deg g) (λ k. (c.u k).0);
        length_v = length_tabulate (deg f) (λ k. (c.v k).0);
        combination = record {
          sum = spelled f g (resultant (suc m) f g) (deg g) (deg f) c.u c.v c.short_u c.short_v
              (λ k. c.eq k ∙ ap (λ (x : Res m). const (Res_ring m) x k)
              (sym (ap (toRes m) (resultant_is m f g) ∙ Fin.val_path
              (mod-eq_of_lt (Rs (Res_ring m) (deg f) (deg g) (words m f) (words m g)).1))));
        };
      }

  pub resultant_reached : (f g : List ℕ) → 1 ≤ deg f +ℕ deg g → Reached (suc m) f g (resultant (suc m) f g)
  resultant_reached f g l = let c = resultant_cofactors f g l in record { u = c.u; v = c.v; combination = c.combination }

-- what is reached depends only on the words modulo n
pub reached_cong : (n : ℕ) → 1 ≤ n → (f f' g g' : List ℕ) → ((k : ℕ) → coef f k % n ≡ coef f' k % n)
    → ((k : ℕ) → coef g k % n ≡ coef g' k % n) → (c : ℕ) → Reached n f g c → Reached n f' g' c
reached_cong zero l f f' g g' hf hg c r = absurd (omega arith)
reached_cong (suc m) l f f' g g' hf hg c r = from_ring m (rw (words_cong m f f' hf, words_cong m g g' hg) at (to_ring m r))

-- and so does D
pub reduced_cong : (n : ℕ) → 1 ≤ n → (f f' g g' : List ℕ) → ((k : ℕ) → coef f k % n ≡ coef f' k % n)
    → ((k : ℕ) → coef g k % n ≡ coef g' k % n) → (D : ℕ) → Reduced n f g D → Reduced n f' g' D
reduced_cong n l f f' g g' hf hg D r = record {
  divides = r.divides;
  least = r.least;
  most = r.most;
  only = λ c p x. r.only c p (reached_cong n l f' f g' g (λ k. sym (hf k)) (λ k. sym (hg k)) c x);
  all = λ c p x. reached_cong n l f f' g g' hf hg c (r.all c p x);
}

-- the bound c < n may be dropped
pub only_any : {n D : ℕ} {f g : List ℕ} → 1 ≤ n → Reduced n f g D → (c : ℕ) → Reached n f g c → D ∣ c
only_any {n} {D} {f} {g} l r c x = (dvd-mod_iff D {m = c} {n = n} r.divides).0
    (r.only (c % n) (mod-lt c l) (reached_same (sym (mod-mod c n)) x))

pub all_any : {n D : ℕ} {f g : List ℕ} → 1 ≤ n → Reduced n f g D → (c : ℕ) → D ∣ c → Reached n f g c
all_any {n} {D} {f} {g} l r c x = reached_same (mod-mod c n) (r.all (c % n) (mod-lt c l) ((dvd-mod_iff D {m = c} {n = n} r.divides).1 x))

-- nor in a proof
pub reduced_by : (n D : ℕ) (f g : List ℕ) → 1 ≤ n → D ∣ n → 1 ≤ D → D ≤ n → ((c : ℕ) → Reached n f g c → D ∣ c)
    → ((c : ℕ) → D ∣ c → Reached n f g c) → Reduced n f g D
reduced_by n D f g l d p q a b = record { divides = d; least = p; most = q; only = λ c _. a c; all = λ c _. b c }

-- multiples of what is reached
pub reached_multiple : (n : ℕ) → 1 ≤ n → (f g : List ℕ) (D j : ℕ) → Reached n f g D → Reached n f g (j *ℕ D)
reached_multiple zero l f g D j r = absurd (omega arith)
reached_multiple (suc m) l f g D j r =
    from_ring m (rw ((reduce_hom m).h_mul (pos j) (pos D), ← const_mul (Res_ring m) (toRes m j) (toRes m D))
    (multiple (Res_ring m) (const (Res_ring m) (toRes m j)) (fin_const (Res_ring m) (toRes m j)) (to_ring m r)))

-- so it is enough to reach D, and to divide what is reached
pub reduced_from : (n D : ℕ) (f g : List ℕ) → 1 ≤ n → D ∣ n → 1 ≤ D → D ≤ n → Reached n f g D → ((c : ℕ) → Reached n f g c → D ∣ c)
    → Reduced n f g D
reduced_from n D f g l d p q r only = record {
  divides = d;
  least = p;
  most = q;
  only = λ c _. only c;
  all = λ c _ x. subst (Reached n f g) (mul_comm (c / D) D ∙ mul-div_cancel' D x) (reached_multiple n l f g D (c / D) r);
}

-- AT MOST ONE D
pub reduced_unique : {n D E : ℕ} {f g : List ℕ} → 1 ≤ n → Reduced n f g D → Reduced n f g E → D ≡ E
reduced_unique {n} {D} {E} l r s = dvd_antisymm (only_any l r E (all_any l s E (dvd_refl E))) (only_any l s D (all_any l r D (dvd_refl D)))

-- THE LAW OF PRODUCTS for D: a multiple of each of the two, a divisor of their ordinary product
pub reduced_product : (n : ℕ) → 1 ≤ n → (f g h : List ℕ) (P A B : ℕ) → Reduced n (product n f g) h P → Reduced n f h A → Reduced n g h B
    → (A ∣ P) × (B ∣ P) × (P ∣ A *ℕ B)
reduced_product zero l f g h P A B p a b = absurd (omega arith)
reduced_product (suc m) l f g h P A B p a b = (
  only_any l a P (reach_left m f g h P (all_any l p P (dvd_refl P))),
  only_any l b P (reach_right m f g h P (all_any l p P (dvd_refl P))),
  only_any l p (A *ℕ B) (reach_both m f g h A B (all_any l a A (dvd_refl A)) (all_any l b B (dvd_refl B))),
)

-- S12: "D divides the resultant when d + e >= 1"
pub reduced_divides : (n : ℕ) → 1 ≤ n → (f g : List ℕ) (D : ℕ) → 1 ≤ deg f +ℕ deg g → Reduced n f g D → D ∣ resultant n f g
reduced_divides zero l f g D p r = absurd (omega arith)
reduced_divides (suc m) l f g D p r = only_any l r (resultant (suc m) f g) (resultant_reached m f g p)
