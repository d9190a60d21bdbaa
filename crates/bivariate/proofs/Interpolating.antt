-- From the values at 0 to B to the words of the resultant in y.
--
--   Values          the values, word by word, with their start, round and end
--   last_fits, sizes_kept, point_fits, value_inside    what a round asks
--   valued          what the interpolation asks of them
--   in_y            the polynomial with these values is the resultant in y
--   prepared_found, valued_found, in_y_found    the same of the record of n
--   points, interpolations    the rules
--
-- Letters: n is the modulus, m is n less 1; f of degrees d in y and a in z, g of e and b; last is B, z a point.
use mathlib.Core.Path.{◌≡◌, refl, sym, ◌∙◌, ap, subst}
use mathlib.Core.List.{List}
use Prim.Native.Nat.{ℕ, zero, suc, ◌+◌, ◌-◌, ◌*◌, ◌%◌, ◌^◌, ◌<◌, ◌≤◌}
use native.Mathlib.Nat.{mod-eq_of_lt, zero-lt-suc}
use native.Mathlib.Omega.{arith}
use lib.Dec.{T, leb, leb→le}
use mir.Syntax.{w32, w64}
use mir.Val.{Fits}
use borrow.Author.Rules.{rules}
use lib.ListN.{length, get_or, set}
use Rattle.definitions.specs.Polynomials.{total}
use Rattle.definitions.specs.Residues.{IsUnit}
use Rattle.definitions.specs.Bivariate.{bivariate_resultant_of, bivariate_degree}
use Rattle.law_numbers.specs.Divisors.{bezout_exists}
use Rattle.law_numbers.specs.PrimeTable.{differences_above}
use Rattle.law_numbers.specs.Units.{cofactor_inverse, gcd_of_coprime, coprime_of_unit}
use Rattle.law_polynomials.specs.BivariateLaws.{evaluated, bivariate_fixed}
use Rattle.modulus.specs.Values.{ModulusOf}
use Rattle.modulus.specs.declared.Modulus.{Modulus}
use Rattle.windows.specs.Window.{Written, Scratch}
use Rattle.windows.proofs.Leaf.{written_none, written_step}
use Rattle.resultant_signs.specs.Degrees.{resultant_lt}
use Rattle.interpolation.specs.Interpolated.{Valued, Interpolated}
use Rattle.bivariate.specs.PairLengthsAsked.{PairLengthsAsked, Prepared, value_at}

-- the values at the first z points
pub record Values (n last : ℕ) (f : List ℕ) (d a : ℕ) (g : List ℕ) (e b : ℕ) (out₀ w₀ out w : List ℕ) (z : ℕ) : Type 0 where
  pub most : z ≤ last + 1
  pub same : length w ≡ length w₀
  pub done : Written (value_at n f d a g e b) 0 z out₀ out

pub values_none : (n last : ℕ) (f : List ℕ) (d a : ℕ) (g : List ℕ) (e b : ℕ) (out w : List ℕ) → Values n last f d a g e b out w out w 0
values_none n last f d a g e b out w = record { most = omega arith; same = refl; done = written_none _ _ _ }

module _ {n last d a e b z : ℕ} {f g out₀ w₀ out w : List ℕ} (p : Prepared n last f d a g e b out₀ w₀)
    (h : Values n last f d a g e b out₀ w₀ out w z) where
  pub last_fits : length out * 4 < 2 ^ 63 → Fits w64 (last + 1)
  last_fits r = record { fits = omega (arith, p.inside, h.done.same) }

  pub sizes_kept : PairLengthsAsked f d a g e b w
  sizes_kept = record {
    most_d = p.sizes.most_d;
    most_e = p.sizes.most_e;
    words_f = p.sizes.words_f;
    words_g = p.sizes.words_g;
    working = omega (arith, h.same, p.sizes.working);
  }

  -- the points up to B + 1 are words
  pub point_fits : (j : ℕ) → z < last + j → T (leb j 2) → Fits w32 n → Fits w32 z
  point_fits j l t r = record { fits = omega (arith, r.fits, leb→le j 2 t, differences_above p.two p.apart) }

  module _ (l : z < last + 1) where
    pub value_inside : z < length out
    value_inside = omega (arith, p.inside, h.done.same)

    pub values_next : {v z' : ℕ} {out' w' : List ℕ} → v ≡ value_at n f d a g e b z → Scratch w w' → out' ≡ set out z v → z' ≡ z + 1
        → Values n last f d a g e b out₀ w₀ out' w' z'
    values_next {v} {z'} {out'} {w'} ev s eo ez = record {
      most = omega arith;
      same = s.same ∙ h.same;
      done = subst (λ (k : ℕ). Written (value_at n f d a g e b) 0 k out₀ out') (sym ez)
          (subst (Written (value_at n f d a g e b) 0 (z + 1) out₀) (ap (λ (k : ℕ). set out k v) plus ∙ sym eo)
          (written_step h.done (omega (arith, p.inside)) ev));
    }
      where
        plus : 0 + z ≡ z
        plus = omega arith

module _ {n last d a e b z : ℕ} {f g out₀ w₀ out w : List ℕ} (h : Values n last f d a g e b out₀ w₀ out w z) where
  pub values_end : last + 1 ≤ z → Written (value_at n f d a g e b) 0 (last + 1) out₀ out
  values_end l = let e : z ≡ last + 1 = omega (arith, h.most) in rw e at h.done

  pub values_scratch : Scratch w₀ w
  values_scratch = record { same = h.same }

module _ {n last d a e b : ℕ} {f g out w : List ℕ} (p : Prepared n last f d a g e b out w) where
  module _ {out₁ : List ℕ} (v : Written (value_at n f d a g e b) 0 (last + 1) out out₁) where
    word : (k : ℕ) → k ≤ last → get_or out₁ k 0 ≡ value_at n f d a g e b k
    word k l = ap (λ (x : ℕ). get_or out₁ x 0) (sym (plus k)) ∙ v.mid k (omega arith)
      where
        plus : (k : ℕ) → 0 + k ≡ k
        plus k = omega arith

    valued : Valued n last out₁
    valued = record {
      two = p.two;
      inside = omega (arith, v.same, p.inside);
      apart = p.apart;
      below = λ k l. subst (λ (x : ℕ). x < n) (sym (word k l))
          (resultant_lt n (omega (arith, p.two)) (evaluated d a f k) (evaluated e b g k));
    }

    module _ {out₂ : List ℕ} (i : Interpolated n last out₁ out₂) where
      unit : (m : ℕ) → n ≡ suc m → (k : ℕ) → 1 ≤ k → k ≤ bivariate_degree d a e b
          → (k * (bezout_exists (suc m) k (zero-lt-suc m)).s) % suc m ≡ 1 % suc m
      unit m h k one l =
          let u : IsUnit n k = subst (IsUnit n) (less k) (p.apart.at 0 k (omega arith) (omega (arith, p.degree))) in
          let c = bezout_exists (suc m) k (zero-lt-suc m) in
          (cofactor_inverse (subst (λ (x : ℕ). 2 ≤ x) h p.two) c.is
          (gcd_of_coprime (coprime_of_unit (subst (λ (x : ℕ). IsUnit x k) h u)) c.is.gcd)).one
        where
          less : (k : ℕ) → k - 0 ≡ k
          less k = omega arith

      value : (m : ℕ) → n ≡ suc m → (z : ℕ) → z ≤ bivariate_degree d a e b
          → total (suc (bivariate_degree d a e b)) (λ k. get_or out₂ k 0 * z ^ k) % suc m ≡ value_at (suc m) f d a g e b z
      value m h z l =
          subst (λ (x : ℕ). total (suc (bivariate_degree d a e b)) (λ k. get_or out₂ k 0 * z ^ k) % x ≡ value_at x f d a g e b z) h
          (subst (λ (x : ℕ). total (suc x) (λ k. get_or out₂ k 0 * z ^ k) % n ≡ value_at n f d a g e b z) p.degree
          (i.at z (omega (arith, p.degree)) ∙ word z (omega (arith, p.degree))))

      answer : (t : ℕ) → n ≡ t → (k : ℕ) → k ≤ last → get_or out₂ k 0 ≡ bivariate_resultant_of t d a e b f g k
      answer zero h k l = absurd (omega (arith, p.two))
      answer (suc m) h k l =
          sym (mod-eq_of_lt (subst (λ (x : ℕ). get_or out₂ k 0 < x) h (i.below k l)))
          ∙ bivariate_fixed m d a e b f g (λ k. (bezout_exists (suc m) k (zero-lt-suc m)).s) (unit m h) (λ k. get_or out₂ k 0) (value m h) k
          (omega (arith, p.degree))

      in_y : Written (bivariate_resultant_of n d a e b f g) 0 (last + 1) out out₂
      in_y = record {
        same = i.same ∙ v.same;
        low = λ k l. absurd (omega arith);
        mid = λ k l. ap (λ (x : ℕ). get_or out₂ x 0) (plus k) ∙ answer n refl k (omega arith);
        high = λ k l. i.high k (omega arith) ∙ v.high k l;
      }
        where
          plus : (k : ℕ) → 0 + k ≡ k
          plus k = omega arith

pub ruleset points = (rules, values_none, last_fits, sizes_kept, point_fits, value_inside, values_next, values_end, values_scratch)

-- the same, where the code works with the record m of n
module _ {n last d a e b : ℕ} {f g out w : List ℕ} {m : Modulus} (h : ModulusOf n m) (p : Prepared n last f d a g e b out w) where
  pub prepared_found : Prepared m.n last f d a g e b out w
  prepared_found = subst (λ (x : ℕ). Prepared x last f d a g e b out w) (sym h.is) p

  module _ {out₁ : List ℕ} (v : Written (value_at m.n f d a g e b) 0 (last + 1) out out₁) where
    pub valued_found : Valued m.n last out₁
    valued_found = valued prepared_found v

    pub in_y_found : {out₂ : List ℕ} → Interpolated m.n last out₁ out₂
        → Written (bivariate_resultant_of n d a e b f g) 0 (last + 1) out out₂
    in_y_found {out₂} i =
        subst (λ (x : ℕ). Written (bivariate_resultant_of x d a e b f g) 0 (last + 1) out out₂) h.is (in_y prepared_found v i)

pub ruleset interpolations = (rules, prepared_found, valued_found, in_y_found)
