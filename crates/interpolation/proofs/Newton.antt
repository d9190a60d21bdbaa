-- Newton's differences and Horner's rule in place: each pass, each term, and what they end with.
--
--   Sweep, sweep_down         a pass place by place, from b down
--   inverse_is                the code's inverse of k + 1 is the one of the passes
--   passes_next               one pass
--   grown_first, grown_down   before the last term but one; one term more
--   interpolated              after the last pass and the last term the words are the polynomial with the values
--   passings, expansions, interpolations    the rules
--
-- Letters: n is the modulus, m is n less 1; b is the last point, k a pass, i the inverse of k + 1; j a term; w are words.
use mathlib.Core.Path.{◌≡◌, refl, sym, ◌∙◌, ap, ap₂, subst}
use mathlib.Core.List.{List}
use Prim.Native.Nat.{ℕ, zero, suc, ◌<◌, ◌≤◌, ◌%◌, ◌^◌, ◌+◌, ◌*◌, ◌-◌}
use native.Mathlib.Fin
use native.Mathlib.Decide.{ℕ_discrete, dec_lt}
use native.Mathlib.Nat.{mod-mod, mod-lt, mod-eq_of_lt, mul-one, zero-lt-suc}
use native.Mathlib.Numerals.{add-one}
use native.Mathlib.Omega.{arith}
use mir.Syntax.{w32}
use mir.Val.{Fits}
use lib.Dec.{T, leb, leb→le}
use lib.IntN.{pos}
use borrow.Author.Rules.{rules}
use lib.ListN.{length, get_or, set, length-set}
use lib.Seq.{get_or-set_same, get_or-set_other}
use Rattle.definitions.specs.Polynomials.{total}
use Rattle.definitions.specs.Residues.{Inverse, IsUnit}
use Rattle.law_algebra.specs.Evaluation.{ev, ev_cong}
use Rattle.law_algebra.specs.Newton.{num, nest, nest_cong, nest_out, nest_step, grow, diff}
use Rattle.law_algebra.specs.Newton.{Stage, stage_next, stage_last, newton_values}
use Rattle.law_algebra.specs.Reduction.{reduce_hom}
use Rattle.law_algebra.specs.Residues.{Res, toRes, Res_ring, mul_mod, mul_mod_r}
use Rattle.law_algebra.specs.Ring.{neg_mul, mul_zero, add_zero, neg_zero}
use Rattle.law_numbers.specs.Divisors.{GcdCofactor, bezout_exists}
use Rattle.law_numbers.specs.PrimeTable.{differences_above}
use Rattle.law_numbers.specs.Units.{cofactor_inverse, inverse_unique, gcd_of_coprime, coprime_of_unit}
use Rattle.law_polynomials.specs.BivariateLaws.{ev_total, num_is}
use Rattle.windows.specs.Window.{Moved, addMul}
use Rattle.interpolation.specs.Interpolated.{Valued, Interpolated, Differenced}
use Rattle.interpolation.specs.NewtonWords.{Row, Passes, Grown, cofactor_of}

-- ---- one pass: of the words up to b those above s are new

pub record Sweep (n i k b s : ℕ) (w w' : List ℕ) : Type 0 where
  pub least : k ≤ s
  pub most : s ≤ b
  pub same : length w' ≡ length w
  pub low : (j : ℕ) → j ≤ s → get_or w' j 0 ≡ get_or w j 0
  pub new : (j : ℕ) → s ≤ j → j < b → get_or w' (suc j) 0 ≡ (i * (get_or w (suc j) 0 + (n - get_or w j 0))) % n
  pub high : (j : ℕ) → b < j → get_or w' j 0 ≡ get_or w j 0

-- the word s + 1
sweep_next : {n i k b s x v : ℕ} {w w' : List ℕ} → Sweep n i k b (suc s) w w' → k < suc s → b < length w
    → x ≡ (get_or w' (suc s) 0 + (n - get_or w' s 0)) % n → v ≡ (i * x) % n → Sweep n i k b s w (set w' (suc s) v)
sweep_next {n} {i} {k} {b} {s} {x} {v} {w} {w'} h z r e f = record {
  least = omega arith;
  most = omega (arith, h.most);
  same = length-set w' (suc s) v ∙ h.same;
  low = λ j q. get_or-set_other w' (suc s) j v 0 (λ z. omega arith) ∙ h.low j (omega arith);
  new = λ j p q. go j p q (ℕ_discrete j s);
  high = λ j q. get_or-set_other w' (suc s) j v 0 (λ z. omega arith) ∙ h.high j q;
}
  where
    here : v ≡ (i * (get_or w (suc s) 0 + (n - get_or w s 0))) % n
    here = f ∙ ap (λ (y : ℕ). (i * y) % n) e ∙ mul_mod_r i (get_or w' (suc s) 0 + (n - get_or w' s 0)) n
        ∙ ap₂ (λ (y z : ℕ). (i * (y + (n - z))) % n) (h.low (suc s) (omega arith)) (h.low s (omega arith))

    at : get_or (set w' (suc s) v) (suc s) 0 ≡ v
    at = get_or-set_same w' (suc s) v 0 (omega (arith, h.same, h.most))

    go : (j : ℕ) → s ≤ j → j < b → Dec (j ≡ s) → get_or (set w' (suc s) v) (suc j) 0 ≡ (i * (get_or w (suc j) 0 + (n - get_or w j 0))) % n
    go j p q (yes z) =
        subst (λ (j : ℕ). get_or (set w' (suc s) v) (suc j) 0 ≡ (i * (get_or w (suc j) 0 + (n - get_or w j 0))) % n) (sym z) (at ∙ here)
    go j p q (no z) = get_or-set_other w' (suc s) (suc j) v 0 (λ y. z (omega arith)) ∙ h.new j (omega arith) q

-- the same, as the loop counts
pub sweep_down : {n i k b s x v : ℕ} {w w' w'' : List ℕ} (t : ℕ) → Sweep n i k b s w w' → k < s → s ≡ suc t → Row n b w
    → x ≡ (get_or w' (t + 1) 0 + (n - get_or w' t 0) * 1) % n → v ≡ (i * x) % n → w'' ≡ set w' (t + 1) v → Sweep n i k b t w w''
sweep_down {n} {i} {k} {b} {s} {x} {v} {w} {w'} t h z es r e f ew =
    subst (Sweep n i k b t w) (sym ew) (subst (λ (y : ℕ). Sweep n i k b t w (set w' y v)) (sym (add-one t))
    (sweep_next (subst (λ (y : ℕ). Sweep n i k b y w w') es h) (omega arith) r.inside
    (e ∙ ap₂ (λ (y u : ℕ). (get_or w' y 0 + u) % n) (add-one t) (mul-one (n - get_or w' t 0))) f))

-- ---- the passes

pub inverse_is : {n k g s m : ℕ} → 2 ≤ n → IsUnit n k → GcdCofactor n k g s → n ≡ suc m → s ≡ cofactor_of m k
unfolding cofactor_of
inverse_is {n} {k} {g} {s} {m} l u c e =
    inverse_unique (cofactor_inverse l c (gcd_of_coprime (coprime_of_unit u) c.gcd))
    (subst (λ (x : ℕ). Inverse x k (bezout_exists (suc m) k (zero-lt-suc m)).s) (sym e)
    (cofactor_inverse (subst (λ (x : ℕ). 2 ≤ x) e l) (bezout_exists (suc m) k (zero-lt-suc m)).is
    (gcd_of_coprime (coprime_of_unit (subst (λ (x : ℕ). IsUnit x k) e u)) (bezout_exists (suc m) k (zero-lt-suc m)).is.gcd)))

pub valued_row : {n b : ℕ} {w : List ℕ} → Valued n b w → Row n b w
valued_row v = record { one = omega (arith, v.two); inside = v.inside; below = v.below }

-- the difference of two words, times i, in the ring
taken : (m i x y : ℕ) → y < suc m → toRes m ((i * (x + (suc m - y))) % suc m)
    ≡ (Res_ring m).mul (toRes m i) ((Res_ring m).add (toRes m x) ((Res_ring m).neg (toRes m y)))
taken m i x y l =
    Fin.val_path (mod-mod (i * (x + (suc m - y))) (suc m))
    ∙ (reduce_hom m).h_mul (pos i) (pos (x + (suc m - y)))
    ∙ ap ((Res_ring m).mul (toRes m i)) ((reduce_hom m).h_add (pos x) (pos (suc m - y))
    ∙ ap (λ (z : ℕ). (Res_ring m).add (toRes m x) (toRes m (suc m - z))) (sym (mod-eq_of_lt l)))

pub passes_next : {n b k g s : ℕ} {w w' w'' : List ℕ} → Valued n b w → Passes n b k w w' → k < b → GcdCofactor n (k + 1) g s
    → Differenced n s k b w' w'' → Passes n b (k + 1) w w''
passes_next {n} {b} {k} {g} {s} {w} {w'} {w''} v h l c d = record {
  same = d.same ∙ h.same;
  row = record { one = omega (arith, v.two); inside = omega (arith, d.same, h.row.inside); below = λ i q. small i q (dec_lt k i) };
  high = λ i q. d.high i q ∙ h.high i q;
  held = λ m e. subst (λ (x : ℕ). Stage (Res_ring m) b (λ i. toRes m (cofactor_of m i)) (λ i. toRes m (get_or w i 0)) x
      (λ i. toRes m (get_or w'' i 0))) (sym more) (stage_next (Res_ring m) b _ _ _ _ k (h.held m e)
      (λ i q. ap (toRes m) (d.low i q)) (λ i p q. next m e i p q));
}
  where
    more : k + 1 ≡ suc k
    more = omega arith

    small : (i : ℕ) → i ≤ b → Dec (k < i) → get_or w'' i 0 < n
    small zero q (yes p) = absurd (omega arith)
    small (suc i) q (yes p) = subst (λ (x : ℕ). x < n) (sym (d.new i (omega arith) (omega arith)))
        (mod-lt (s * (get_or w' (suc i) 0 + (n - get_or w' i 0))) (omega (arith, v.two)))
    small i q (no p) = subst (λ (x : ℕ). x < n) (sym (d.low i (omega arith))) (h.row.below i q)

    unit : IsUnit n (suc k)
    unit = subst (IsUnit n) (less k) (v.apart.at 0 (suc k) (omega arith) (omega arith))
      where
        less : (k : ℕ) → suc k - 0 ≡ suc k
        less k = omega arith

    next : (m : ℕ) → n ≡ suc m → (i : ℕ) → k ≤ i → suc i ≤ b → toRes m (get_or w'' (suc i) 0)
        ≡ (Res_ring m).mul (toRes m (cofactor_of m (suc k)))
        ((Res_ring m).add (toRes m (get_or w' (suc i) 0)) ((Res_ring m).neg (toRes m (get_or w' i 0))))
    next m e i p q =
        ap (toRes m) (d.new i p (omega arith) ∙ ap (λ (x : ℕ). (s * (get_or w' (suc i) 0 + (x - get_or w' i 0))) % x) e)
        ∙ taken m s (get_or w' (suc i) 0) (get_or w' i 0) (subst (λ (x : ℕ). get_or w' i 0 < x) e (h.row.below i (omega arith)))
        ∙ ap (λ (x : ℕ). (Res_ring m).mul (toRes m x)
        ((Res_ring m).add (toRes m (get_or w' (suc i) 0)) ((Res_ring m).neg (toRes m (get_or w' i 0)))))
        (inverse_is v.two unit (subst (λ (x : ℕ). GcdCofactor n x g s) more c) e)

-- the numbers up to b + 1 are words
pub point_fits : {n b k : ℕ} {w : List ℕ} (j : ℕ) → Valued n b w → Fits w32 n → k < b → T (leb j 2) → Fits w32 (k + j)
point_fits j v f l t = record { fits = omega (arith, differences_above v.two v.apart, f.fits, leb→le j 2 t) }

pub ruleset passings = (rules, passes_next, point_fits)

-- ---- the terms

pub grown_first : {n b : ℕ} {w : List ℕ} → Row n b w → Grown n b b w w
grown_first {n} {b} {w} r = record { same = refl; row = r; low = λ i l. refl; high = λ i l. refl; at = λ m e t h k l. go m t h k l }
  where
    go : (m t : ℕ) → b + t ≡ suc b → (k : ℕ) → k < t
        → toRes m (get_or w (b + k) 0) ≡ nest (Res_ring m) t b (λ i. toRes m (get_or w (b + i) 0)) k
    go m zero h k l = absurd (omega arith)
    go m (suc zero) h zero l = sym (ap (λ (x : Res m). (Res_ring m).add (toRes m (get_or w (b + 0) 0)) ((Res_ring m).neg x))
        (mul_zero (Res_ring m) (num (Res_ring m) b))
        ∙ ap ((Res_ring m).add (toRes m (get_or w (b + 0) 0))) (neg_zero (Res_ring m)) ∙ add_zero (Res_ring m) (toRes m (get_or w (b + 0) 0)))
    go m (suc zero) h (suc k) l = absurd (omega arith)
    go m (suc (suc t)) h k l = absurd (omega arith)

-- x + (n - j) y, in the ring
scaled : (m x j y : ℕ) → j < suc m → toRes m ((x + (suc m - j) * y) % suc m)
    ≡ (Res_ring m).add (toRes m x) ((Res_ring m).neg ((Res_ring m).mul (num (Res_ring m) j) (toRes m y)))
scaled m x j y l =
    Fin.val_path (mod-mod (x + (suc m - j) * y) (suc m))
    ∙ (reduce_hom m).h_add (pos x) (pos ((suc m - j) * y))
    ∙ ap ((Res_ring m).add (toRes m x)) ((reduce_hom m).h_mul (pos (suc m - j)) (pos y)
    ∙ ap (λ (z : ℕ). (Res_ring m).mul (toRes m (suc m - z)) (toRes m y)) (sym (mod-eq_of_lt l))
    ∙ neg_mul (Res_ring m) (toRes m j) (toRes m y)
    ∙ ap (λ (z : Res m). (Res_ring m).neg ((Res_ring m).mul z (toRes m y))) (sym (num_is m j)))

module _ {n b j : ℕ} {w w' w'' : List ℕ} (h : Grown n b (suc j) w w') (l : suc j ≤ b) (small : b < n)
    (v : Moved (addMul n (n - j)) (j + 1) j (b - j) w' w'') where
  -- word j + i for i below b - j
  new : (i x y : ℕ) → x ≡ j + i → y ≡ suc x → i < b - j → get_or w'' x 0 ≡ (get_or w' x 0 + (n - j) * get_or w' y 0) % n
  new i x y e f q =
      ap (λ (z : ℕ). get_or w'' z 0) e ∙ v.mid i q
      ∙ ap₂ (λ (s t : ℕ). (get_or w' s 0 + (n - j) * get_or w' t 0) % n) (sym e) (same_place i x y e f)
    where
      same_place : (i x y : ℕ) → x ≡ j + i → y ≡ suc x → j + 1 + i ≡ y
      same_place i x y e f = omega arith

  fits : (i : ℕ) → i ≤ b → Dec (i < j) → Dec (i < b) → get_or w'' i 0 < n
  fits i q (yes p) d = subst (λ (x : ℕ). x < n) (sym (v.low i p)) (h.row.below i q)
  fits i q (no p) (yes d) = subst (λ (x : ℕ). x < n) (sym (new (i - j) i (suc i) (omega arith) refl (omega arith)))
      (mod-lt (get_or w' i 0 + (n - j) * get_or w' (suc i) 0) h.row.one)
  fits i q (no p) (no d) = subst (λ (x : ℕ). x < n) (sym (v.high i (omega arith))) (h.row.below i q)

  module _ (m : ℕ) (e : n ≡ suc m) where
    G : ℕ → Res m
    G = nest (Res_ring m) (b - j) (suc j) (λ i. toRes m (get_or w (suc j + i) 0))

    old : (k x : ℕ) → x ≡ suc j + k → k < b - j → toRes m (get_or w' x 0) ≡ G k
    unfolding G
    old k x f q = ap (λ (z : ℕ). toRes m (get_or w' z 0)) f ∙ h.at m e (b - j) (omega arith) k q

    fresh : (i x y : ℕ) → x ≡ j + i → y ≡ suc x → i < b - j → toRes m (get_or w'' x 0)
        ≡ (Res_ring m).add (toRes m (get_or w' x 0)) ((Res_ring m).neg ((Res_ring m).mul (num (Res_ring m) j) (toRes m (get_or w' y 0))))
    fresh i x y f g q =
        ap (toRes m) (new i x y f g q ∙ ap (λ (z : ℕ). (get_or w' x 0 + (z - j) * get_or w' y 0) % z) e)
        ∙ scaled m (get_or w' x 0) j (get_or w' y 0) (omega arith)

    beyond : (k : ℕ) → b - j ≤ k → G k ≡ toRes m 0
    unfolding G
    beyond = nest_out (Res_ring m) (b - j) (suc j) (λ i. toRes m (get_or w (suc j + i) 0))

    top : (k : ℕ) → j + suc k ≤ b → Dec (j + suc k < b)
        → toRes m (get_or w'' (j + suc k) 0) ≡ grow (Res_ring m) j (toRes m (get_or w j 0)) G (suc k)
    top k q (yes p) =
        fresh (suc k) (j + suc k) (suc (j + suc k)) refl refl (omega arith)
        ∙ ap₂ (λ (x y : Res m). (Res_ring m).add x ((Res_ring m).neg ((Res_ring m).mul (num (Res_ring m) j) y)))
        (old k (j + suc k) (omega arith) (omega arith)) (old (suc k) (suc (j + suc k)) (omega arith) (omega arith))
    top k q (no p) =
        ap (toRes m) (v.high (j + suc k) (omega arith)) ∙ old k (j + suc k) (omega arith) (omega arith)
        ∙ sym (ap (λ (y : Res m). (Res_ring m).add (G k) ((Res_ring m).neg ((Res_ring m).mul (num (Res_ring m) j) y)))
        (beyond (suc k) (omega arith))
        ∙ ap (λ (y : Res m). (Res_ring m).add (G k) ((Res_ring m).neg y)) (mul_zero (Res_ring m) (num (Res_ring m) j))
        ∙ ap ((Res_ring m).add (G k)) (neg_zero (Res_ring m)) ∙ add_zero (Res_ring m) (G k))

    place : (j : ℕ) → j + 0 ≡ j
    place j = omega arith

    each : (k : ℕ) → j + k ≤ b → toRes m (get_or w'' (j + k) 0) ≡ grow (Res_ring m) j (toRes m (get_or w j 0)) G k
    each zero q =
        fresh 0 (j + 0) (suc (j + 0)) refl refl (omega arith)
        ∙ ap₂ (λ (x y : Res m). (Res_ring m).add x ((Res_ring m).neg ((Res_ring m).mul (num (Res_ring m) j) y)))
        (ap (λ (z : ℕ). toRes m (get_or w' z 0)) (place j) ∙ ap (toRes m) (h.low j (omega arith)))
        (old 0 (suc (j + 0)) (omega arith) (omega arith))
    each (suc k) q = top k q (dec_lt (j + suc k) b)

    all : (k : ℕ) → j + k ≤ b → toRes m (get_or w'' (j + k) 0) ≡ nest (Res_ring m) (suc (b - j)) j (λ i. toRes m (get_or w (j + i) 0)) k
    unfolding G
    all k q = each k q ∙ ap (λ (f : ℕ → Res m). f k) (nest_step (Res_ring m) (b - j) j (λ i. toRes m (get_or w i 0)))

  counted : (m : ℕ) → n ≡ suc m → (r : ℕ) → j + r ≡ suc b → (k : ℕ) → k < r
      → toRes m (get_or w'' (j + k) 0) ≡ nest (Res_ring m) r j (λ i. toRes m (get_or w (j + i) 0)) k
  counted m e r t k q =
      let f : suc (b - j) ≡ r = omega arith in
      subst (λ (x : ℕ). toRes m (get_or w'' (j + k) 0) ≡ nest (Res_ring m) x j (λ i. toRes m (get_or w (j + i) 0)) k) f
      (all m e k (omega arith))

  grown_next : Grown n b j w w''
  grown_next = record {
    same = v.same ∙ h.same;
    row = record { one = h.row.one; inside = omega (arith, v.same, h.row.inside); below = λ i q. fits i q (dec_lt i j) (dec_lt i b) };
    low = λ i q. v.low i q ∙ h.low i (omega arith);
    high = λ i q. v.high i (omega arith) ∙ h.high i q;
    at = counted;
  }

-- the same, as the loop counts
pub grown_down : {n b : ℕ} {w w' w'' : List ℕ} (j : ℕ) → Grown n b j w w' → 0 < j → j ≤ b → b < n
    → Moved (addMul n (n - (j - 1))) (j - 1 + 1) (j - 1) (b - (j - 1)) w' w'' → Grown n b (j - 1) w w''
grown_down zero h z l small v = absurd (omega arith)
grown_down {n} {b} {w} {w'} {w''} (suc j) h z l small v =
    subst (λ (t : ℕ). Grown n b t w w'') (sym back)
    (grown_next h l small (subst (λ (t : ℕ). Moved (addMul n (n - t)) (t + 1) t (b - t) w' w'') back v))
  where
    back : suc j - 1 ≡ j
    back = omega arith

pub ruleset expansions = (rules, grown_first, grown_down)

-- ---- the end

module _ {n b : ℕ} {w w' w'' : List ℕ} (v : Valued n b w) (p : Passes n b b w w') (g : Grown n b 0 w' w'') (m : ℕ) (e : n ≡ suc m) where
  plus : (i : ℕ) → 0 + i ≡ i
  plus i = omega arith

  less : (k : ℕ) → k - 0 ≡ k
  less k = omega arith

  Q : ℕ → Res m
  Q = nest (Res_ring m) (suc b) 0 (λ k. diff (Res_ring m) (λ i. toRes m (cofactor_of m i)) (λ i. toRes m (get_or w i 0)) k 0)

  final : (k : ℕ) → k < suc b → toRes m (get_or w'' k 0) ≡ Q k
  unfolding Q
  final k q =
      ap (λ (x : ℕ). toRes m (get_or w'' x 0)) (sym (plus k)) ∙ g.at m e (suc b) (plus (suc b)) k q
      ∙ ap (λ (f : ℕ → Res m). f k) (nest_cong (Res_ring m) (suc b) 0 _ _
      (λ i r. ap (λ (x : ℕ). toRes m (get_or w' x 0)) (plus i) ∙ stage_last (Res_ring m) b _ _ _ (p.held m e) i (omega arith)))

  unit_of : (k : ℕ) → 1 ≤ k → k ≤ b → (Res_ring m).mul (toRes m (cofactor_of m k)) (num (Res_ring m) k) ≡ toRes m 1
  unfolding cofactor_of
  unit_of k one q =
      let u : IsUnit n k = subst (IsUnit n) (less k) (v.apart.at 0 k (omega arith) q) in
      let c = bezout_exists (suc m) k (zero-lt-suc m) in
      ap ((Res_ring m).mul (toRes m c.s)) (num_is m k)
      ∙ Fin.val_path (sym (mul_mod c.s k (suc m)) ∙ c.is.bezout
      ∙ ap (λ (x : ℕ). x % suc m) (gcd_of_coprime (coprime_of_unit (subst (λ (x : ℕ). IsUnit x k) e u)) c.is.gcd))

  value_at : (z : ℕ) → z ≤ b → total (suc b) (λ k. get_or w'' k 0 * z ^ k) % suc m ≡ get_or w z 0
  unfolding Q
  value_at z l =
      ap (λ (x : Res m). x.0) (sym (ev_total m (suc b) z (λ k. get_or w'' k 0))
      ∙ ev_cong (Res_ring m) (suc b) (toRes m z) (λ k. toRes m (get_or w'' k 0)) Q final
      ∙ ap (λ (x : Res m). ev (Res_ring m) (suc b) x Q) (sym (num_is m z))
      ∙ newton_values (Res_ring m) b (λ i. toRes m (cofactor_of m i)) unit_of (λ i. toRes m (get_or w i 0)) z l)
      ∙ mod-eq_of_lt (subst (λ (x : ℕ). get_or w z 0 < x) e (v.below z l))

pub valued_small : {n b : ℕ} {w : List ℕ} → Valued n b w → b < n
valued_small v = differences_above v.two v.apart

pub interpolated : {n b : ℕ} {w w' w'' : List ℕ} → Valued n b w → Passes n b b w w' → Grown n b 0 w' w'' → Interpolated n b w w''
interpolated {n} {b} {w} {w'} {w''} v p g = record {
  same = g.same ∙ p.same;
  below = g.row.below;
  at = λ z l. go z l n refl;
  high = λ k l. g.high k l ∙ p.high k l;
}
  where
    go : (z : ℕ) → z ≤ b → (t : ℕ) → n ≡ t → total (suc b) (λ k. get_or w'' k 0 * z ^ k) % t ≡ get_or w z 0
    go z l zero e = absurd (omega (arith, v.two))
    go z l (suc m) e = value_at v p g m e z l

pub ruleset interpolations = (rules, valued_row, valued_small, interpolated)
