-- The cofactors of D: from the multiplier that completes to it, and for a unit polynomial. The rules take what the calls promise, as the
-- code hands it over, for words of any width.
--
--   divide_asked, quotient_asked, finish-…, finished              what `finish` asks and promises
--   cofactor_fits, degree_fits                                    lengths
--   constant_room, constant_unit, constant_certified, constant_length, constant_scratch    the same for `constant`
--   divides, finishes, constants                                  the rules
use mathlib.Core.Path.{◌≡◌, refl, sym, ap, ap₂, subst, ◌∙◌, fun_ext}
use mathlib.Core.List.{List, [], ◌∷◌}
use mathlib.Core.Logic.{⊎_elim}
use Prim.Native.Nat.{ℕ, zero, suc, max, ◌+◌, ◌-◌, ◌*◌, ◌%◌, ◌≤◌, ◌<◌}
use native.Mathlib.Omega.{arith}
use native.Mathlib.Nat.{mod-lt, mod-mod, zero-mod, zero-add, add-zero, one-mul, mul-le-mul, mul-le-mul_left, le-max_left, le-max_right}
use borrow.Author.Rules.{rules}
use lib.ListN.{length, get_or, set, take, drop, replicate, length-set}
use lib.Seq.{get_or-set_same, get_or-set_other}
use Rattle.definitions.specs.Residues.{K}
use Rattle.definitions.specs.Polynomials.{coef, convolve, constant, L, Monic, Divided, UnitPolynomial}
use Rattle.law_numbers.specs.Logarithm.{K_positive}
use Rattle.law_polynomials.specs.ReachedSteps.{coef_beyond}
use Rattle.law_polynomials.specs.ReducedLaws.{reduced_unit, reduced_flip}
use Rattle.convolution.specs.Sums.{convolve_constant, zeros_at}
use Rattle.window_division.proofs.DivisionRounds.{convolve_none}
use Rattle.windows.specs.Window.{piece, Moved, second, Loaded, Below, Around, Scratch}
use Rattle.windows.proofs.Leaf.{lt_or_le, piece_at, piece_over, piece_same, piece_length}
use Rattle.windows.proofs.Lift.{moved_around, moved_copy}
use Rattle.law_multipliers.specs.Multipliers.{NegatedInverse, completed, multiplier_first, multiplier_completes, inverse_of_negated}
use Rattle.law_multipliers.specs.Joining.{combination_same}
use Rattle.law_multipliers.specs.Reductions.{reduced_unity}
use Rattle.reduced_units.proofs.Regions.{apart_low, below_apart, piece_apart, part_piece}
use Rattle.reduced_cofactors.specs.Cofactors.{CoreLengthsAsked, CoreCertified, FactoredAt, monic_place}
use Rattle.reduced_cofactors.specs.Cofactors.{FinishAsked, Finished, DivideAsked, DividedBy}
use Rattle.reduced_quotients.specs.Quotients.{OverUnitAsked, OverFirst, ExactQuotientAsked, ExactQuotient}

-- the polynomial of degree t at q, with a leading 1
pub monic_at : (n q t : ℕ) (w : List ℕ) → 1 ≤ n → get_or w (q + t) 0 ≡ 1 → Monic n t (piece w q (t + 1))
monic_at n q t w pos lead = record {
  lead = ap (λ (x : ℕ). x % n) (piece_at w q (t + 1) t (omega arith) ∙ lead);
  above = λ k h. ap (λ (x : ℕ). x % n) (piece_over w q (t + 1) k (omega arith)) ∙ zero-mod n;
}

-- words loaded above zeros
pub loaded_word : (n : ℕ) (s y₀ y : List ℕ) (l : ℕ) → length s ≡ l → Loaded n 0 s (replicate (length y₀) 0) y → (i : ℕ) → coef y i ≡ coef
    s i % n
loaded_word n s y₀ y l is_l ld i = ⊎_elim
    (λ h. ap (λ (x : ℕ). get_or y x 0) (sym (zero-add i)) ∙ ld.mid i (omega arith))
    (λ h. ld.high i (omega arith) ∙ zeros_at (length y₀) i ∙ sym (ap (λ (x : ℕ). x % n) (coef_beyond s i (omega arith)) ∙ zero-mod n))
    (lt_or_le i l)

-- what `divide` asks
pub divide_asked : {n e q t k : ℕ} {w x y : List ℕ} → FinishAsked n e q t k w x y → DivideAsked n e q t k w
divide_asked p = record {
  above = p.above;
  degree = p.degree;
  near = p.near;
  second = p.second;
  room = omega arith;
  below_h = p.below_h;
  lead = p.lead;
  multiplier = p.multiplier;
}

-- and what it asks of the exact quotient
pub quotient_asked : {n e q t k : ℕ} {w : List ℕ} → DivideAsked n e q t k w → ExactQuotientAsked n e q t w
quotient_asked p = record {
  modulus = p.above;
  degree = p.degree;
  lies = omega (arith, p.near);
  room = omega (arith, p.room);
  second = p.second;
}

module _ {n e q t k c : ℕ} {w w₂ x₀ y₀ : List ℕ} (asked : FinishAsked n e q t k w x₀ y₀) (dv : DividedBy n e q t k c w w₂) where
  abbrev w₁ : List ℕ
  w₁ = dv.w₁

  eq : ExactQuotient n e q t c w dv.w₁
  eq = dv.quotient

  cp : Moved second (e + 1) (q + 2 * (t + 1) + (t + e + 1)) (k + 1) dv.w₁ w₂
  cp = dv.unit

  copied : Around (q + 2 * (t + 1) + (t + e + 1)) (k + 1) w₁ w₂
  copied = moved_around cp

  same_u : piece w₂ (q + 2 * (t + 1) + (t + e + 1)) (k + 1) ≡ piece w (e + 1) (k + 1)
  same_u =
      moved_copy (omega (arith, eq.around.same)) (omega (arith, eq.around.same)) cp
      ∙ piece_apart (apart_low (e + 1) (k + 1) (q + 2 * (t + 1)) (t + e + 1) (omega arith)) eq.around (omega arith)

  pub finish_unit : {n' : ℕ} {f : List ℕ} → n' ≡ n → f ≡ piece w₂ (q + 2 * (t + 1) + (t + e + 1)) (k + 1) → UnitPolynomial n' f
  finish_unit en ef = rw (en, ef, same_u) asked.unit

  long : q + 2 * (t + 1) + (t + e + 1) + (k + 1) + (2 * (K n * k + 1) + (e + 1)) ≤ length w₂
  long = omega (arith, cp.same, eq.around.same)

  below_z : Below n (q + 2 * (t + 1) + t) (e + 1) w₂
  below_z = below_apart (apart_low (q + 2 * (t + 1) + t) (e + 1) (q + 2 * (t + 1) + (t + e + 1)) (k + 1) (omega arith)) copied (record {
    at = λ i h. let z : q + 2 * (t + 1) + (t + i) ≡ q + 2 * (t + 1) + t + i = omega arith in
        subst (λ (x : ℕ). get_or w₁ x 0 < n) z (eq.below.at (t + i) (omega arith));
  })

  pub finish_room : {n' up k' zp lz : ℕ} {v u : List ℕ} → n' ≡ n → up ≡ q + 2 * (t + 1) + (t + e + 1) → k' ≡ k
      → zp ≡ q + 2 * (t + 1) + t → lz ≡ e + 1 → v ≡ w₂ → u ≡ x₀ → OverUnitAsked n' up k' zp lz v u
  finish_room en eu ek ez el ev ex =
      rw (en, eu, ek, ez, el, ev, ex) (record {
        modulus = asked.above;
        some = omega arith;
        lies = omega arith;
        below = below_z;
        room = long;
        quotient = asked.long_x;
      })

  pub finish_scratch : {w₃ : List ℕ} → Scratch w₂ w₃ → Scratch w w₃
  finish_scratch sc = record { same = sc.same ∙ cp.same ∙ eq.around.same }

  same_v : piece w₂ (q + (t + 1)) t ≡ piece w (q + (t + 1)) t
  same_v =
      piece_apart (apart_low (q + (t + 1)) t (q + 2 * (t + 1) + (t + e + 1)) (k + 1) (omega arith)) copied (omega (arith, eq.around.same))
      ∙ piece_apart (apart_low (q + (t + 1)) t (q + 2 * (t + 1)) (t + e + 1) (omega arith)) eq.around (omega arith)

  same_z : piece w₂ (q + 2 * (t + 1) + t) (e + 1) ≡ piece w₁ (q + 2 * (t + 1) + t) (e + 1)
  same_z = piece_apart (apart_low (q + 2 * (t + 1) + t) (e + 1) (q + 2 * (t + 1) + (t + e + 1)) (k + 1) (omega arith)) copied
      (omega (arith, eq.around.same))

  -- the words of the multiplier, as they are lent
  abbrev lent : List ℕ
  lent = take (q + (t + 1) + t - (q + (t + 1))) (drop (q + (t + 1)) w₂)

  is_lent : lent ≡ piece w₂ (q + (t + 1)) t
  is_lent = part_piece w₂ (q + (t + 1)) t (q + (t + 1) + t - (q + (t + 1))) (omega arith)

  pub finish_part : q + (t + 1) + t ≤ length w₂
  finish_part = omega (arith, long)

  -- the words of the multiplier, as they are lent, fit in y
  pub finish_place : length lent ≤ length y₀
  finish_place =
      subst (λ (f : List ℕ). length f ≤ length y₀) (sym is_lent)
      (omega (arith, piece_length w₂ (q + (t + 1)) t (omega (arith, long)), asked.long_y))

  module _ {y x : List ℕ} (ld : Loaded n 0 lent (replicate (length y₀) 0) y)
      (of : OverFirst n (q + 2 * (t + 1) + (t + e + 1)) k (q + 2 * (t + 1) + t) (e + 1) w₂ x) where
    loaded : Loaded n 0 (piece w₂ (q + (t + 1)) t) (replicate (length y₀) 0) y
    loaded = subst (λ (f : List ℕ). Loaded n 0 f (replicate (length y₀) 0) y) is_lent ld

    word : (i : ℕ) → coef y i ≡ coef (piece w (q + (t + 1)) t) i % n
    word i =
        loaded_word n (piece w₂ (q + (t + 1)) t) y₀ y t (piece_length w₂ (q + (t + 1)) t (omega (arith, long))) loaded i
        ∙ ap (λ (f : List ℕ). coef f i % n) same_v

    pub finished : Finished n e q t k c w x y
    finished = record {
      j = of.j;
      inverse = subst (λ (f : List ℕ). NegatedInverse n f of.j) same_u of.inverse;
      combination = λ f mf cm.
          combination_same n (omega arith) f f (piece w 0 (e + 1)) (piece w 0 (e + 1)) x x (piece w (q + (t + 1)) t) y c (λ i. refl)
          (λ i. refl) (λ i. refl)
          (λ i. sym (ap (λ (z : ℕ). z % n) (word i) ∙ mod-mod _ n))
          (completed n (omega arith) t c f (piece w 0 (e + 1)) (piece w q (t + 1)) (piece w (e + 1) (k + 1)) of.j
          (piece w (q + (t + 1)) t) eq.r (piece w₁ (q + 2 * (t + 1) + t) (e + 1))
          (piece w₁ (q + 2 * (t + 1)) t) x [] eq.s (monic_at n q t w (omega arith) asked.lead) cm eq.start eq.product
          eq.divided (λ i h. piece_over w₁ (q + 2 * (t + 1)) t i h) mf
          (subst (λ (f : List ℕ). NegatedInverse n f of.j) same_u of.inverse) (λ i. coef_beyond [] i (omega arith))
          (subst (λ (f : List ℕ). Divided n [] f of.j x) same_z of.divided));
      below_x = of.below;
      below_y = λ i. subst (λ (z : ℕ). z < n) (sym (word i)) (mod-lt _ (omega arith));
      short_x = of.short;
      short_y = λ i h. word i ∙ ap (λ (z : ℕ). z % n) (piece_over w (q + (t + 1)) t i h) ∙ zero-mod n;
    }

-- ---- lengths

-- a quotient over a unit polynomial of degree k at most d fits in a cofactor
pub cofactor_fits : (n d e k : ℕ) → 2 ≤ n → k ≤ d → (K n - 1) * k + (e + 1) ≤ L n d e
cofactor_fits n d e k two h =
    let m : ℕ = max d e in
    let p : (K n - 1) * k ≤ (K n - 1) * m = mul-le-mul_left (K n - 1) (omega (arith, le-max_left d e)) in
    let s : K n * m ≡ (K n - 1) * m + m = split (K n) m (K_positive n two) in
    omega (arith, le-max_right d e)
  where
    split : (κ m : ℕ) → 1 ≤ κ → κ * m ≡ (κ - 1) * m + m
    split (suc κ) m h = spread κ m ∙ ap (λ (x : ℕ). x * m + m) (less κ)
      where
        spread : (κ m : ℕ) → suc κ * m ≡ κ * m + m
        spread κ m = omega arith

        less : (κ : ℕ) → κ ≡ suc κ - 1
        less κ = omega arith
    split zero m h = absurd (omega arith)

pub degree_fits : (n d e t : ℕ) → 2 ≤ n → t ≤ d → t ≤ L n d e
degree_fits n d e t two h = omega (arith, le-max_left d e, more (K n) (max d e) (K_positive n two))
  where
    more : (κ m : ℕ) → 1 ≤ κ → m ≤ κ * m
    more κ m h = let z : 1 * m ≤ κ * m = mul-le-mul h le_self in omega arith
      where
        le_self : m ≤ m
        le_self = omega arith

-- ---- F is a unit polynomial

module _ {n d e : ℕ} {w x₀ y₀ : List ℕ} (space : CoreLengthsAsked n d e w x₀ y₀) (fa : FactoredAt n d e 0 w) where
  two : 2 ≤ n
  two = space.above

  same_unit : piece (set w 0 1) (monic_place d e + (0 + 1) + 0) (d + 1) ≡ piece w (monic_place d e + (0 + 1) + 0) (d + 1 - 0)
  same_unit =
      piece_same w (set w 0 1) (monic_place d e + (0 + 1) + 0) (d + 1) (omega arith) (length-set w 0 1) (λ k h. get_or-set_other w 0
      (monic_place d e + (0 + 1) + 0 + k) 1 0 (omega arith))
      ∙ ap (λ (l : ℕ). piece w (monic_place d e + (0 + 1) + 0) l) (let z : d + 1 ≡ d + 1 - 0 = omega arith in z)

  pub constant_unit : UnitPolynomial n (piece (set w 0 1) (monic_place d e + (0 + 1) + 0) (d + 1))
  constant_unit = subst (UnitPolynomial n) (sym same_unit) fa.unit

  one_below : (k : ℕ) → k ≡ 0 → get_or (set w 0 1) (0 + k) 0 < n
  one_below k z = rw (z, get_or-set_same w 0 1 0 (omega arith)) two

  pub constant_room : OverUnitAsked n (monic_place d e + (0 + 1) + 0) d 0 1 (set w 0 1) x₀
  constant_room = record {
    modulus = two;
    some = omega arith;
    lies = omega arith;
    below = record { at = λ k h. one_below k (omega arith) };
    room = omega (arith, length-set w 0 1);
    quotient = omega (arith, space.long_x, cofactor_fits n d e d two (omega arith));
  }

  -- H is 1
  unity : (k : ℕ) → coef (piece w (monic_place d e) (0 + 1)) k ≡ constant 1 k
  unity zero = piece_at w (monic_place d e) (0 + 1) 0 (omega arith) ∙ fa.monic
  unity (suc k) = piece_over w (monic_place d e) (0 + 1) (suc k) (omega arith)

  first : (k : ℕ) → coef (piece (set w 0 1) 0 1) k ≡ constant 1 k
  first zero = piece_at (set w 0 1) 0 1 0 (omega arith) ∙ ap (λ (z : ℕ). get_or (set w 0 1) z 0) (zero-add 0) ∙ get_or-set_same w 0 1 0
      (omega arith)
  first (suc k) = piece_over (set w 0 1) 0 1 (suc k) (omega arith)

  pub constant_certified : {x y : List ℕ} → y ≡ replicate (length y₀) 0
      → OverFirst n (monic_place d e + (0 + 1) + 0) d 0 1 (set w 0 1) x → CoreCertified n d e w x y 1
  constant_certified {x} is_y of = rw is_y (record {
    reduced =
        let i = inverse_of_negated n (omega arith) u of.j inverse in
        reduced_unit n (omega arith) f u i.0 (piece w (monic_place d e) (0 + 1)) g 1 fa.equation i.1
        (reduced_flip n (omega arith) g (piece w (monic_place d e) (0 + 1)) 1 (reduced_unity n (omega arith) g (piece w (monic_place d e)
        (0 + 1)) (λ k. ap (λ (z : ℕ). z % n) (unity k))));
    combination =
        completed n (omega arith) 0 1 f g (piece w (monic_place d e) (0 + 1)) u of.j (replicate (length y₀) 0) (1 ∷ [])
        (piece (set w 0 1) 0 1) [] x [] (1 ∷ [])
        (monic_at n (monic_place d e) 0 w (omega arith) fa.monic)
        (multiplier_completes n 1 n (omega arith) (omega arith) (sym (one-mul n)) (piece w (monic_place d e) (0 + 1)) g
        (replicate (length y₀)
        0) (piece w (monic_place d e) (0 + 1)) (λ k. ap (λ (z : ℕ). z % n) (unity k))
        (multiplier_first n (omega arith) (piece w (monic_place d e) (0 + 1)) g (replicate (length y₀) 0) (zeros_at (length y₀))))
        (λ k. ap (λ (z : ℕ). z % n) (single k))
        (record { at = λ k. ap (λ (z : ℕ). z % n) (ap (λ (z : ℕ). z + coef (1 ∷ []) k) (nothing (coef g) k) ∙ zero-add _) })
        (record {
          at = λ k. ap (λ (z : ℕ). z % n) (ap₂ (λ (F G : ℕ → ℕ). convolve F G k + coef [] k) (fun_ext first) (fun_ext unity) ∙ ap₂
              (λ (p q : ℕ). p + q) (ones k) (coef_beyond [] k (omega arith)) ∙ add-zero _ ∙ sym (single k));
        })
        (λ k h. coef_beyond [] k (omega arith)) fa.equation inverse (λ k. coef_beyond [] k (omega arith)) of.divided;
    below_u = of.below;
    below_v = λ k. subst (λ (z : ℕ). z < n) (sym (zeros_at (length y₀) k)) (omega arith);
    short_u = λ k h. of.short k (omega (arith, cofactor_fits n d e d two le_self));
    short_v = λ k h. zeros_at (length y₀) k;
  })
    where
      f : List ℕ
      f = piece w (e + 1) (d + 1)

      g : List ℕ
      g = piece w 0 (e + 1)

      u : List ℕ
      u = piece w (monic_place d e + (0 + 1) + 0) (d + 1 - 0)

      le_self : d ≤ d
      le_self = omega arith

      inverse : NegatedInverse n u of.j
      inverse = subst (λ (f : List ℕ). NegatedInverse n f of.j) same_unit of.inverse

      single : (k : ℕ) → coef (1 ∷ []) k ≡ constant 1 k
      single zero = refl
      single (suc k) = refl

      nothing : (F : ℕ → ℕ) (k : ℕ) → convolve (coef (replicate (length y₀) 0)) F k ≡ 0
      nothing F k = ap (λ (a : ℕ → ℕ). convolve a F k) (fun_ext (zeros_at (length y₀))) ∙ convolve_none F k

      ones : (k : ℕ) → convolve (constant 1) (constant 1) k ≡ constant 1 k
      ones k = convolve_constant 1 (constant 1) k ∙ one-mul (constant 1 k)

pub constant_length : (w : List ℕ) {w' : List ℕ} → Scratch (set w 0 1) w' → length w' ≡ length w
constant_length w sc = sc.same ∙ length-set w 0 1

pub constant_scratch : {w w' : List ℕ} → Scratch (set w 0 1) w' → Scratch w w'
constant_scratch {w} sc = record { same = sc.same ∙ length-set w 0 1 }

pub ruleset divides = (rules, quotient_asked)

pub ruleset finishes = (divide_asked, finish_part, finish_place, finish_room, finish_unit, finished, finish_scratch)

pub ruleset constants = (constant_room, constant_unit, constant_certified, constant_length, constant_scratch)
