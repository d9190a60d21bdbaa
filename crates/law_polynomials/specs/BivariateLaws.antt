-- The resultant of two variables, from its definition: it is the ring's resultant over polynomials in z modulo n, its degree in z is at
-- most B = e a + d b, its value at every point is the resultant of the evaluated pair, and its words are fixed by the values at 0, …, B
-- where the differences of these points are units.
--
--   polynomials_are            the definition's polynomials are the ring's series
--   bivariate_resultant_is     word k of the resultant of two variables, in the ring
--   group_value a f z i, evaluated d a f z    the coefficient of y to the i, and all of f, at the point z
--   bivariate_degree_bound         no word beyond B
--   bivariate_value                at every point z the answer's value is the resultant of the evaluated pair
--   bivariate_fixed                words with the right values at 0, …, B are the answer
--   bivariate_constant             with a = b = 0 it is the resultant
--
-- Letters: m is n less 1; f of degrees d in y and a in z, g of e and b; z is a point; inv k is the inverse of k.
use Rattle.std.specs.Prelude.{◌≡◌, refl, List, Bool, true, false, not, cond, T, leb, ℤ, pos, neg_ℤ, ◌+ℤ◌, ◌*ℤ◌}
use Rattle.std.proofs.Common.{sym, ◌∙◌, ap₂, subst, mod-eq_of_lt, mul-one, mul-zero, mul-add, mul_comm, mul_left_comm, zero-lt-suc, arith, leb→le}
use Rattle.std.proofs.Math.Path.{ap, fun_ext}
use Prim.Native.Nat.{ℕ, zero, suc, ◌<◌, ◌≤◌, ◌%◌, ◌^◌, ◌+◌ as ◌+ℕ◌, ◌*◌ as ◌*ℕ◌, ◌-◌ as ◌-ℕ◌}
use native.Mathlib.Fin
use Rattle.std.proofs.Math.Decide.{dec_le}
use Rattle.std.proofs.Math.Nat.{pow-zero, pow-succ'}
use Rattle.std.proofs.Math.Dec.{nleb→lt}
use Rattle.definitions.specs.Expansions.{Operations, polynomials, summed, single, expansion, rows_of}
use Rattle.definitions.specs.Polynomials.{coef, deg, total, tabulate}
use Rattle.definitions.specs.Resultants.{resultant}
use Rattle.definitions.specs.Bivariate.{group, bivariate_resultant_of, bivariate_degree}
use Rattle.law_algebra.specs.Evaluation.{ev, ev_cong, Value, value_of}
use Rattle.law_algebra.specs.Integers.{ℤ_ring}
use Rattle.law_algebra.specs.Interpolation.{same_values}
use Rattle.law_algebra.specs.Newton.{num, num_sub}
use Rattle.law_algebra.specs.Reduction.{reduce, reduce_hom}
use Rattle.law_algebra.specs.Residues.{Res, toRes, Res_ring, mul_mod}
use Rattle.law_algebra.specs.ResultantMaps.{Rs_cong, series_hom, Rs_hom}
use Rattle.law_algebra.specs.Ring.{add_zero, mul_zero as mul_zero_ring}
use Rattle.law_algebra.specs.SentLaws.{Rs}
use Rattle.law_algebra.specs.Series.{series, conv, const}
use Rattle.law_algebra.specs.SylvesterValues.{Rs_value}
use Rattle.law_polynomials.specs.ExpansionLaws.{operations, expansion_is}
use Rattle.law_polynomials.specs.ResultantLaws.{resultant_cong}
use Rattle.law_polynomials.specs.Words.{words, resultant_is, residue_reduce, coef_tabulate, length_tabulate, coef_out}

-- the polynomials of the definition are those of the ring of series
times_is : (k : ℕ) (p q : ℕ → ℤ) → summed (suc k) (λ i. p i *ℤ q (k -ℕ i)) ≡ conv ℤ_ring p q k
times_is zero p q = add_zero ℤ_ring (p 0 *ℤ q 0)
times_is (suc k) p q =
    ap₂ (λ (x : ℕ) (y : ℤ). p 0 *ℤ q x +ℤ y) (all k) (ap (summed (suc k)) (fun_ext (λ i. ap (λ (x : ℕ). p (suc i) *ℤ q x) (less k i)))
    ∙ times_is k (λ i. p (suc i)) q)
  where
    all : (k : ℕ) → suc k -ℕ 0 ≡ suc k
    all k = omega arith

    less : (k i : ℕ) → suc k -ℕ suc i ≡ k -ℕ i
    less k i = omega arith

single_is : (c : ℤ) (k : ℕ) → single c k ≡ const ℤ_ring c k
single_is c zero = refl
single_is c (suc k) = refl

pub polynomials_are : polynomials ≡ operations (series ℤ_ring)
polynomials_are = ap₂ (λ (o : ℕ → ℤ) (t : (ℕ → ℤ) → (ℕ → ℤ) → ℕ → ℤ). made o t) (fun_ext (single_is (pos 1)))
    (fun_ext (λ p. fun_ext (λ q. fun_ext (λ k. times_is k p q))))
  where
    made : (ℕ → ℤ) → ((ℕ → ℤ) → (ℕ → ℤ) → ℕ → ℤ) → Operations (ℕ → ℤ)
    made o t = record { nought = λ k. pos 0; one = o; plus = λ p q k. p k +ℤ q k; times = t; opposite = λ p k. neg_ℤ (p k) }

-- the coefficient of y to the i at the point z
abbrev pub group_value : ℕ → List ℕ → ℕ → ℕ → ℕ
group_value a f z i = total (suc a) (λ j. coef f (i *ℕ suc a +ℕ j) *ℕ z ^ j)

-- the polynomial in y that f is at the point z
abbrev pub evaluated : ℕ → ℕ → List ℕ → ℕ → List ℕ
evaluated d a f z = tabulate (suc d) (group_value a f z)

pub deg_evaluated : (d a : ℕ) (f : List ℕ) (z : ℕ) → deg (evaluated d a f z) ≡ d
deg_evaluated d a f z = length_tabulate d (λ i. group_value a f z (suc i))

module _ (m : ℕ) where
  -- the coefficients in y, as polynomials in z over Z/(m + 1)
  abbrev pub groups : ℕ → List ℕ → ℕ → ℕ → Res m
  groups a f i j = reduce m (group a f i j)

  pub bivariate_resultant_is : (d a e b : ℕ) (f g : List ℕ) (k : ℕ)
      → bivariate_resultant_of (suc m) d a e b f g k ≡ (Rs (series (Res_ring m)) d e (groups a f) (groups b g) k).0
  unfolding bivariate_resultant_of
  bivariate_resultant_is d a e b f g k =
      residue_reduce m (expansion polynomials (d +ℕ e) (rows_of polynomials d e (group a f) (group b g)) k)
      ∙ ap (λ (x : Res m). x.0)
      (ap (λ (O : Operations (ℕ → ℤ)). reduce m (expansion O (d +ℕ e) (rows_of O d e (group a f) (group b g)) k)) polynomials_are
      ∙ ap (λ (p : ℕ → ℤ). reduce m (p k)) (expansion_is (series ℤ_ring) d e (group a f) (group b g))
      ∙ ap (λ (p : ℕ → Res m). p k) (Rs_hom (series ℤ_ring) (series (Res_ring m)) (λ p k. reduce m (p k))
      (series_hom ℤ_ring (Res_ring m) (reduce m) (reduce_hom m)) d e (group a f) (group b g)))

  -- sums of words times powers are values
  total_times : (n z : ℕ) (F : ℕ → ℕ) → z *ℕ total n F ≡ total n (λ j. z *ℕ F j)
  total_times zero z F = mul-zero z
  total_times (suc n) z F = mul-add z (F 0) (total n (λ j. F (suc j))) ∙ ap (λ (x : ℕ). z *ℕ F 0 +ℕ x) (total_times n z (λ j. F (suc j)))

  pub ev_total : (n z : ℕ) (c : ℕ → ℕ) → ev (Res_ring m) n (toRes m z) (λ j. toRes m (c j)) ≡ toRes m (total n (λ j. c j *ℕ z ^ j))
  ev_total zero z c = refl
  ev_total (suc n) z c =
      ap (λ (x : Res m). (Res_ring m).add (toRes m (c 0)) ((Res_ring m).mul (toRes m z) x)) (ev_total n z (λ j. c (suc j)))
      ∙ ap ((Res_ring m).add (toRes m (c 0))) (sym ((reduce_hom m).h_mul (pos z) (pos (total n (λ j. c (suc j) *ℕ z ^ j)))))
      ∙ sym ((reduce_hom m).h_add (pos (c 0)) (pos (z *ℕ total n (λ j. c (suc j) *ℕ z ^ j))))
      ∙ ap (toRes m) (ap₂ ◌+ℕ◌ (sym (mul-one (c 0)) ∙ ap (λ (x : ℕ). c 0 *ℕ x) (sym (pow-zero z)))
      (total_times n z (λ j. c (suc j) *ℕ z ^ j) ∙ ap (total n) (fun_ext (λ j. mul_left_comm z (c (suc j)) (z ^ j)
      ∙ ap (λ (x : ℕ). c (suc j) *ℕ x) (sym (pow-succ' z j))))))

  group_in : (a : ℕ) (f : List ℕ) (i j : ℕ) → j ≤ a → groups a f i j ≡ toRes m (coef f (i *ℕ suc a +ℕ j))
  group_in a f i j l = go (leb j a) refl
    where
      go : (t : Bool) → leb j a ≡ t → reduce m (cond t (pos (coef f (i *ℕ suc a +ℕ j))) (pos 0)) ≡ toRes m (coef f (i *ℕ suc a +ℕ j))
      go true h = refl
      go false h = let q = nleb→lt j a (subst (λ t. T (not t)) (sym h) tt) in absurd (omega arith)

  group_out : (a : ℕ) (f : List ℕ) (i j : ℕ) → a < j → groups a f i j ≡ toRes m 0
  group_out a f i j l = go (leb j a) refl
    where
      go : (t : Bool) → leb j a ≡ t → reduce m (cond t (pos (coef f (i *ℕ suc a +ℕ j))) (pos 0)) ≡ toRes m 0
      go true h = let q = leb→le j a (subst T (sym h) tt) in absurd (omega arith)
      go false h = refl

  -- the evaluated words
  pub evaluated_is : (d a : ℕ) (f : List ℕ) (z i : ℕ) → i ≤ d
      → ev (Res_ring m) (suc a) (toRes m z) (groups a f i) ≡ words m (evaluated d a f z) i
  evaluated_is d a f z i l =
      ev_cong (Res_ring m) (suc a) (toRes m z) (groups a f i) (λ j. toRes m (coef f (i *ℕ suc a +ℕ j)))
      (λ j p. group_in a f i j (omega arith))
      ∙ ev_total (suc a) z (λ j. coef f (i *ℕ suc a +ℕ j))
      ∙ ap (toRes m) (sym (coef_tabulate (suc d) (group_value a f z) i (omega arith)))

  resultant_below : (f g : List ℕ) → resultant (suc m) f g % suc m ≡ resultant (suc m) f g
  resultant_below f g =
      ap (λ (x : ℕ). x % suc m) (resultant_is m f g) ∙ mod-eq_of_lt (Rs (Res_ring m) (deg f) (deg g) (words m f) (words m g)).1
      ∙ sym (resultant_is m f g)

  -- the numbers 0, 1, 2, … of the ring
  pub num_is : (k : ℕ) → num (Res_ring m) k ≡ toRes m k
  num_is zero = refl
  num_is (suc k) = ap ((Res_ring m).add (toRes m 1)) (num_is k) ∙ sym ((reduce_hom m).h_add (pos 1) (pos k))
      ∙ ap (toRes m) (one_more k)
    where
      one_more : (k : ℕ) → 1 +ℕ k ≡ suc k
      one_more k = omega arith

  module _ (d a e b : ℕ) (f g : List ℕ) where
    -- the resultant, in the ring
    abbrev pub two : ℕ → Res m
    two = Rs (series (Res_ring m)) d e (groups a f) (groups b g)

    -- of the ring's value at z
    value : (z : ℕ) → Value (Res_ring m) (bivariate_degree d a e b) (toRes m z) two
        (Rs (Res_ring m) d e (λ i. ev (Res_ring m) (suc a) (toRes m z) (groups a f i))
        (λ i. ev (Res_ring m) (suc b) (toRes m z) (groups b g i)))
    value z = Rs_value (Res_ring m) (toRes m z) d e a b (groups a f) (groups b g) _ _
        (λ i. value_of (Res_ring m) a (toRes m z) (groups a f i) (group_out a f i))
        (λ i. value_of (Res_ring m) b (toRes m z) (groups b g i) (group_out b g i))

    pub value_ring : (z : ℕ) → ev (Res_ring m) (suc (bivariate_degree d a e b)) (toRes m z) two
        ≡ toRes m (resultant (suc m) (evaluated d a f z) (evaluated e b g z))
    value_ring z =
        (value z).at
        ∙ Rs_cong (Res_ring m) d e _ (words m (evaluated d a f z)) _ (words m (evaluated e b g z))
        (evaluated_is d a f z) (evaluated_is e b g z)
        ∙ Fin.val_path (sym (mod-eq_of_lt (Rs (Res_ring m) d e (words m (evaluated d a f z)) (words m (evaluated e b g z))).1))
        ∙ ap (toRes m) (sym (resultant_is m (evaluated d a f z) (evaluated e b g z)
        ∙ ap₂ (λ (s t : ℕ). (Rs (Res_ring m) s t (words m (evaluated d a f z)) (words m (evaluated e b g z))).0)
        (deg_evaluated d a f z) (deg_evaluated e b g z)))

    two_is : (k : ℕ) → two k ≡ toRes m (bivariate_resultant_of (suc m) d a e b f g k)
    two_is k = Fin.val_path (sym (mod-eq_of_lt (two k).1)) ∙ ap (toRes m) (sym (bivariate_resultant_is d a e b f g k))

    -- NO WORD BEYOND e a + d b
    pub bivariate_degree_bound : (k : ℕ) → bivariate_degree d a e b < k → bivariate_resultant_of (suc m) d a e b f g k ≡ 0
    bivariate_degree_bound k l = bivariate_resultant_is d a e b f g k ∙ ap (λ (x : Res m). x.0) ((value 0).out k l)
        ∙ mod-eq_of_lt (zero-lt-suc m)

    -- THE VALUE AT EVERY POINT is the resultant of the evaluated pair
    pub bivariate_value : (z : ℕ) → total (suc (bivariate_degree d a e b)) (λ k. bivariate_resultant_of (suc m) d a e b f g k *ℕ z ^ k) % suc m
        ≡ resultant (suc m) (evaluated d a f z) (evaluated e b g z)
    bivariate_value z = ap (λ (x : Res m). x.0) (sym
        (ev_total (suc (bivariate_degree d a e b)) z (bivariate_resultant_of (suc m) d a e b f g))
        ∙ ap (ev (Res_ring m) (suc (bivariate_degree d a e b)) (toRes m z)) (sym (fun_ext two_is)) ∙ value_ring z)
        ∙ resultant_below (evaluated d a f z) (evaluated e b g z)

    -- words whose value is the resultant's at 0, …, e a + d b, where 1, …, e a + d b are units
    module _ (inv : ℕ → ℕ) (unit : (k : ℕ) → 1 ≤ k → k ≤ bivariate_degree d a e b → (k *ℕ inv k) % suc m ≡ 1 % suc m) where
      unit_ring : (k : ℕ) → 1 ≤ k → k ≤ bivariate_degree d a e b → (Res_ring m).mul (toRes m (inv k)) (num (Res_ring m) k) ≡ toRes m 1
      unit_ring k l h = ap ((Res_ring m).mul (toRes m (inv k))) (num_is k)
          ∙ Fin.val_path (sym (mul_mod (inv k) k (suc m)) ∙ ap (λ (x : ℕ). x % suc m) (mul_comm (inv k) k) ∙ unit k l h)

      -- THE VALUES FIX THE WORDS
      pub bivariate_fixed : (w : ℕ → ℕ) → ((z : ℕ) → z ≤ bivariate_degree d a e b
          → total (suc (bivariate_degree d a e b)) (λ k. w k *ℕ z ^ k) % suc m ≡ resultant (suc m) (evaluated d a f z) (evaluated e b g z))
          → (k : ℕ) → k ≤ bivariate_degree d a e b → w k % suc m ≡ bivariate_resultant_of (suc m) d a e b f g k
      bivariate_fixed w h k l =
          ap (λ (x : Res m). x.0) (same_values (Res_ring m) (suc (bivariate_degree d a e b)) (num (Res_ring m)) (λ k. toRes m (w k)) two
          (λ i p. ap (λ (x : Res m). ev (Res_ring m) (suc (bivariate_degree d a e b)) x (λ k. toRes m (w k))) (num_is i)
          ∙ ev_total (suc (bivariate_degree d a e b)) i w ∙ Fin.val_path (h i (omega arith) ∙ sym (resultant_below _ _))
          ∙ sym (value_ring i)
          ∙ ap (λ (x : Res m). ev (Res_ring m) (suc (bivariate_degree d a e b)) x two) (sym (num_is i)))
          (λ i j p q. record {
            i = toRes m (inv (j -ℕ i));
            one = ap ((Res_ring m).mul (toRes m (inv (j -ℕ i)))) (num_sub (Res_ring m) i (j -ℕ i) j (omega arith))
                ∙ unit_ring (j -ℕ i) (omega arith) (omega arith);
          }) k (omega arith))
          ∙ sym (bivariate_resultant_is d a e b f g k)

module _ (m : ℕ) where
  -- at degree 0 in z the evaluated words are the words
  plain : (d : ℕ) (f : List ℕ) → deg f ≡ d → (k : ℕ) → coef (evaluated d 0 f 0) k % suc m ≡ coef f k % suc m
  plain d f h k = go (dec_le k d)
    where
      one : (k : ℕ) → k *ℕ 1 +ℕ 0 ≡ k
      one k = omega arith

      same : (x : ℕ) → x *ℕ 1 +ℕ 0 ≡ x
      same x = omega arith

      go : Dec (k ≤ d) → coef (evaluated d 0 f 0) k % suc m ≡ coef f k % suc m
      go (yes l) = ap (λ (x : ℕ). x % suc m) (coef_tabulate (suc d) (group_value 0 f 0) k (omega arith)
          ∙ ap₂ (λ (x y : ℕ). coef f x *ℕ y +ℕ 0) (one k) (pow-zero 0) ∙ same (coef f k))
      go (no l) = ap (λ (x : ℕ). x % suc m)
          (coef_out (evaluated d 0 f 0) k (omega (arith, deg_evaluated d 0 f 0)) ∙ sym (coef_out f k (omega arith)))

  -- WITH a = b = 0 it is the resultant
  pub bivariate_constant : (d e : ℕ) (f g : List ℕ) → deg f ≡ d → deg g ≡ e
      → bivariate_resultant_of (suc m) d 0 e 0 f g 0 ≡ resultant (suc m) f g
  bivariate_constant d e f g hd he =
      bivariate_resultant_is m d 0 e 0 f g 0
      ∙ ap (λ (x : Res m). x.0) (sym (ap ((Res_ring m).add (two m d 0 e 0 f g 0)) (mul_zero_ring (Res_ring m) (toRes m 0))
      ∙ add_zero (Res_ring m) (two m d 0 e 0 f g 0))
      ∙ ap (λ (k : ℕ). ev (Res_ring m) (suc k) (toRes m 0) (two m d 0 e 0 f g)) (none d e) ∙ value_ring m d 0 e 0 f g 0)
      ∙ resultant_below m (evaluated d 0 f 0) (evaluated e 0 g 0)
      ∙ resultant_cong m (evaluated d 0 f 0) f (evaluated e 0 g 0) g (deg_evaluated d 0 f 0 ∙ sym hd) (deg_evaluated e 0 g 0 ∙ sym he)
      (plain d f hd) (plain e g he)
    where
      none : (d e : ℕ) → 0 ≡ bivariate_degree d 0 e 0
      none d e = omega arith
